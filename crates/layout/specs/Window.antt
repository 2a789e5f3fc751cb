-- One window with one pane, its status line, and what drawing it promises.
use Rattle.std.specs.Prelude.{◌≡◌, ℕ, Bool, true, false, ◌&&◌, List, [], ◌∷◌, ◌++◌, take}
use Rattle.meaning.specs.Words.{each, so_many}
use Rattle.meaning.specs.Screen.{Cell, Term}
use Rattle.meaning.specs.Panes.{Glass, pane}
use Rattle.meaning.specs.Picture.{picture, turned}
use Rattle.grid.specs.Cells.{rows_of, cells_of}
use Rattle.grid.specs.Edits.{on_screen}

-- the glass of w columns and h rows with pane i alone, looked at
abbrev pub one_pane : ℕ → ℕ → ℕ → Term → ℕ → Bool → Glass
one_pane w h i t n p = record {
  wide = w;
  high = h;
  attached = true;
  windows = record { layout = pane i; focus = i } ∷ [];
  at = 0;
  panes = record { id = i; term = t } ∷ [];
  next = n;
  prefix = p;
}

-- its status line
abbrev pub status_row : ℕ → List Cell
status_row w = take w (each turned (32 ∷ 48 ∷ 42 ∷ []) ++ so_many w (turned 32))

-- told whether the picture's and the pane's cells are as many as their sizes ask for; then the new cells are the picture, as rows and as numbers, whatever
-- else the pane is; else nothing has changed
pub record Pictured (w h : ℕ) (old new : List ℕ) (pane_w pane_h : ℕ) (cells : List ℕ) (r : Bool) : Type 0 where
  pub told : r ≡ (on_screen w h old && on_screen pane_w pane_h cells)
  pub rows : r ≡ true → (i n : ℕ) (t : Term) (p : Bool) → t.rows ≡ rows_of pane_w pane_h cells → rows_of w h new ≡ picture (one_pane w h i t n p)
  pub numbers : r ≡ true → (i n : ℕ) (t : Term) (p : Bool) → t.rows ≡ rows_of pane_w pane_h cells → new ≡ cells_of (picture (one_pane w h i t n p))
  pub kept : r ≡ false → new ≡ old
