-- The viewer's screen as a terminal of the definitions.
use Rattle.std.specs.Prelude.{◌≡◌, ℕ, Bool, true, false, List, [], vec_items}
use Rattle.meaning.specs.Screen.{Term}
use Rattle.meaning.specs.Bytes.{written}
use Rattle.grid.specs.Edits.{on_screen}
use Rattle.terminal.specs.Terms.{term_on}
use Rattle.shown.specs.Driven.{unheard}
use Rattle.player.specs.declared.screen.Screen.{Screen}

abbrev pub screen_of : Screen → Term
screen_of s = term_on s.term (vec_items s.cells) []

-- whether its cells are as many as its size asks for
abbrev pub whole_screen : Screen → Bool
whole_screen s = on_screen s.term.size.wide s.term.size.high (vec_items s.cells)

-- the bytes are on the screen; what it answers is not kept
pub record Wrote (s : Screen) (bytes : List ℕ) (r : Bool) (s₁ : Screen) : Type 0 where
  pub told : r ≡ whole_screen s
  pub done : r ≡ true → screen_of s₁ ≡ unheard (written (screen_of s) bytes)
  pub kept : r ≡ false → screen_of s₁ ≡ screen_of s
  pub whole : whole_screen s₁ ≡ whole_screen s
  pub wide : s₁.term.size.wide ≡ s.term.size.wide
  pub high : s₁.term.size.high ≡ s.term.size.high
