-- What an edit of the cells promises.
use Rattle.std.specs.Prelude.{◌≡◌, ℕ, ◌-◌, ◌*◌, Bool, true, false, List, ◌++◌, length, take, drop, ◌==◌}
use Rattle.meaning.specs.Words.{so_many, put_at, each}
use Rattle.meaning.specs.Screen.{Cell, blank_row, row_at, fitted_row}
use Rattle.grid.specs.Cells.{rows_of}

-- are these the cells of a screen of w columns and h rows?
abbrev pub on_screen : ℕ → ℕ → List ℕ → Bool
on_screen w h xs = length xs == h * w

-- an edit answers whether it fits; if so the rows are these afterwards, and else nothing has changed
pub record Edited (w h : ℕ) (old new : List ℕ) (fit r : Bool) (rows : List (List Cell)) : Type 0 where
  pub told : r ≡ fit
  pub done : r ≡ true → rows_of w h new ≡ rows
  pub kept : r ≡ false → new ≡ old

-- row k changed
abbrev pub row_changed : List (List Cell) → ℕ → (List Cell → List Cell) → List (List Cell)
row_changed rs k f = put_at rs k (f (row_at rs k))

-- the rows from a up to b, and without b, are blank
abbrev pub rows_blanked : ℕ → List (List Cell) → ℕ → ℕ → List (List Cell)
rows_blanked w rs a b = take a rs ++ so_many (b - a) (blank_row w) ++ drop b rs

-- rows on a screen of w columns and h rows: the first `skip` leave above, and what is new is blank
abbrev pub rows_fitted : ℕ → ℕ → ℕ → List (List Cell) → List (List Cell)
rows_fitted w h skip rs = take h (each (fitted_row w) (drop skip rs) ++ so_many h (blank_row w))
