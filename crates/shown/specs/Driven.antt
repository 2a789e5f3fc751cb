-- What feeding bytes of any number does to a terminal whose answers nobody hears.
use Rattle.std.specs.Prelude.{◌≡◌, ℕ, Bool, true, false, List, []}
use Rattle.meaning.specs.Screen.{Term, with_answer}
use Rattle.meaning.specs.Bytes.{written}
use Rattle.grid.specs.Edits.{on_screen}
use Rattle.terminal.specs.Terms.{term_on}
use Rattle.terminal.specs.declared.state.Terminal.{Terminal}

-- a terminal without what it has answered
abbrev pub unheard : Term → Term
unheard t = with_answer t []

-- the bytes have been written
pub record FedAll (t : Terminal) (cells bytes : List ℕ) (t₁ : Terminal) (cells₁ : List ℕ) : Type 0 where
  pub term : term_on t₁ cells₁ [] ≡ unheard (written (term_on t cells []) bytes)
  pub wide : t₁.size.wide ≡ t.size.wide
  pub high : t₁.size.high ≡ t.size.high

-- r says whether the cells are the screen's: then the bytes have been written, and else nothing has changed
pub record Driven (t : Terminal) (cells bytes : List ℕ) (r : Bool) (t₁ : Terminal) (cells₁ : List ℕ) : Type 0 where
  pub told : r ≡ on_screen t.size.wide t.size.high cells
  pub done : r ≡ true → FedAll t cells bytes t₁ cells₁
  pub same_state : r ≡ false → t₁ ≡ t
  pub same_cells : r ≡ false → cells₁ ≡ cells
