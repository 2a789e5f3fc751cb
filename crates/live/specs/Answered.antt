-- What a pane's terminal has taken and answered.
use Rattle.std.specs.Prelude.{◌≡◌, ℕ, ◌*◌, List, ◌++◌, length, drop}
use Rattle.meaning.specs.Bytes.{written}
use Rattle.terminal.specs.Terms.{term_on}
use Rattle.terminal.specs.declared.state.Terminal.{Terminal}
use Rattle.engine.specs.Areas.{over}
use Rattle.engine.specs.Memory.{cells_at}
use Rattle.machine.specs.States.{terminal_in}

-- the bytes were written over the pane's cells in memory, and the answer stands at the beginning of the lent row
pub record Answered (t : Terminal) (m bytes out : List ℕ) (r : ℕ) (t₁ : Terminal) (m₁ out₁ : List ℕ) : Type 0 where
  pub cells : List ℕ
  pub long : length cells ≡ t.size.high * t.size.wide
  pub memory : m₁ ≡ over m cells_at cells
  pub wide : t₁.size.wide ≡ t.size.wide
  pub high : t₁.size.high ≡ t.size.high
  pub term : term_on t₁ cells (written (terminal_in t m) bytes).answer ≡ written (terminal_in t m) bytes
  pub count : r ≡ length (written (terminal_in t m) bytes).answer
  pub so : out₁ ≡ (written (terminal_in t m) bytes).answer ++ drop (length (written (terminal_in t m) bytes).answer) out
