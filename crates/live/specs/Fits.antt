-- A pane's terminal with another size, in the memory.
use Rattle.std.specs.Prelude.{◌≡◌, ℕ, ◌*◌, List, length}
use Rattle.meaning.specs.Screen.{fitted}
use Rattle.terminal.specs.Terms.{term_on}
use Rattle.terminal.specs.declared.state.Terminal.{Terminal}
use Rattle.engine.specs.Areas.{part, over}

-- its cells now begin where the old ones did
pub record Fitted (t : Terminal) (m : List ℕ) (w h : ℕ) (t₁ : Terminal) (m₁ : List ℕ) : Type 0 where
  pub cells : List ℕ
  pub memory : m₁ ≡ over m 38304 cells
  pub long : length cells ≡ h * w
  pub wide : t₁.size.wide ≡ w
  pub high : t₁.size.high ≡ h
  pub done : (a : List ℕ) → term_on t₁ cells a ≡ fitted (term_on t (part m 38304 (t.size.high * t.size.wide)) a) w h
