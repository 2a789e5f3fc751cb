-- What loading and storing a header leave.
use Rattle.std.specs.Prelude.{◌≡◌, ℕ, Bool, true, false, List, length, ◌==◌}
use Rattle.meaning.specs.Screen.{Cell}
use Rattle.terminal.specs.Terms.{term_of}
use Rattle.terminal.specs.declared.state.Terminal.{Terminal}
use Rattle.header.specs.Header.{header_fits, term_from, header_of}

-- the numbers fit, and t stands for the same terminal as they do
pub record Loaded (m : List ℕ) (t : Terminal) : Type 0 where
  pub fits : header_fits m ≡ true
  pub same : (rs : List (List Cell)) (a : List ℕ) → term_of t rs a ≡ term_from m rs a

-- 64 numbers become the header of t; others stay
pub record Stored (t : Terminal) (old : List ℕ) (r : Bool) (new : List ℕ) : Type 0 where
  pub told : r ≡ (length old == 64)
  pub done : r ≡ true → (rs : List (List Cell)) (a : List ℕ) → new ≡ header_of (term_of t rs a)
  pub kept : r ≡ false → new ≡ old
