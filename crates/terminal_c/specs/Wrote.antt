-- What a caller learns of bytes written on a screen as it comes up.
use Rattle.std.specs.Prelude.{◌≡◌, Bool, true, false, ◌&&◌, List, ℕ, leb, ltb}
use Rattle.meaning.specs.Screen.{fresh}
use Rattle.meaning.specs.Bytes.{written}
use Rattle.grid.specs.Cells.{rows_of}
use Rattle.grid.specs.Edits.{on_screen}

-- is this a screen's size, and are these its cells?
abbrev pub fits : ℕ → ℕ → List ℕ → Bool
fits w h cells = (ltb 0 w && (leb w 200 && (ltb 0 h && leb h 60))) && on_screen w h cells

pub record Wrote (w h : ℕ) (old bytes : List ℕ) (r : Bool) (new : List ℕ) : Type 0 where
  pub told : r ≡ fits w h old
  pub done : r ≡ true → rows_of w h new ≡ (written (fresh w h) bytes).rows
  pub kept : r ≡ false → new ≡ old
