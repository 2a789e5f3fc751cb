-- The picture that windows and panes make: the cells of the whole screen, where its cursor is, and in how many cells two pictures differ.
use Rattle.std.specs.Prelude.{ℕ, suc, ◌+◌, ◌-◌, Bool, true, false, ◌&&◌, List, [], ◌∷◌, ◌++◌, length, take, drop, ◌==◌, nat_lt}
use Rattle.meaning.specs.Words.{pick, each, so_many, put_at}
use Rattle.meaning.specs.Screen.{Cell, Term, blank_row, plain_style, row_at, same_cell}
use Rattle.meaning.specs.Bytes.{in_digits}
use Rattle.meaning.specs.Panes.{Layout, pane, beside, above, Rect, Place, places, half, left_of, right_of, upper_of, lower_of, Window, Pane, Glass, current, room, pane_of, place_of_focus}

abbrev pub Rows : Type 0
Rows = List (List Cell)

-- cells put into a row from column x on; rows of cells put into a picture from row y and column x on
abbrev pub put_row : ℕ → List Cell → List Cell → List Cell
put_row x cs r = take x r ++ cs ++ drop (x + length cs) r

unfoldable pub put_rows : ℕ → ℕ → List (List Cell) → Rows → Rows
put_rows x y [] rs = rs
put_rows x y (c ∷ cs) rs = put_rows x (suc y) cs (put_at rs y (put_row x c (row_at rs y)))

-- as much of a pane as its place has room for
abbrev pub cut : Rect → Term → Rows
cut r t = each (take r.wide) (take r.high t.rows)

abbrev pub draw_one : Place → List Pane → Rows → Rows
draw_one q [] rs = rs
draw_one q (p ∷ ps) rs = put_rows q.rect.x q.rect.y (cut q.rect p.term) rs

unfoldable pub draw_places : Glass → List Place → Rows → Rows
draw_places g [] rs = rs
draw_places g (q ∷ qs) rs = draw_places g qs (draw_one q (pane_of g q.id) rs)

-- a plain character
abbrev pub sign : ℕ → Cell
sign c = record { sign = c; style = plain_style }

-- the lines between panes, | and -
unfoldable pub draw_lines : Layout → Rect → Rows → Rows
draw_lines (pane i) r rs = rs
draw_lines (beside a b) r rs =
    draw_lines b (right_of r) (draw_lines a (left_of r)
    (pick (nat_lt 0 r.wide) (put_rows (r.x + half r.wide) r.y (so_many r.high (sign 124 ∷ [])) rs) rs))
draw_lines (above a b) r rs =
    draw_lines b (lower_of r) (draw_lines a (upper_of r)
    (pick (nat_lt 0 r.high) (put_rows r.x (r.y + half r.high) (so_many r.wide (sign 45) ∷ []) rs) rs))

-- the status line, in reverse video: for each window a blank, its number, and a star at the one that is looked at or a blank
unfoldable pub window_signs : ℕ → ℕ → List Window → List ℕ
window_signs at k [] = []
window_signs at k (v ∷ vs) = 32 ∷ in_digits k ++ pick (at == k) 42 32 ∷ window_signs at (suc k) vs

abbrev pub turned : ℕ → Cell
turned c = record { sign = c; style = record { marks = 4; fore = 9; back = 9 } }

abbrev pub last_row : Glass → List Cell
last_row g = take g.wide (each turned (window_signs g.at 0 g.windows) ++ so_many g.wide (turned 32))

unfoldable pub picture : Glass → Rows
picture g =
    put_at (draw_places g (places (current g).layout (room g)) (draw_lines (current g).layout (room g) (so_many g.high (blank_row g.wide)))) (g.high - 1) (last_row g)

-- the cursor: the one of the pane with the focus, if it is visible there and there is room
pub record Spot : Type 0 where
  pub shown : Bool
  pub row : ℕ
  pub col : ℕ

abbrev pub nowhere : Spot
nowhere = record { shown = false; row = 0; col = 0 }

abbrev pub spot_in : Rect → Term → Spot
spot_in r t = pick (t.shown && (nat_lt t.row r.high && nat_lt t.col r.wide)) (record { shown = true; row = r.y + t.row; col = r.x + t.col }) nowhere

abbrev pub spot_of : List Place → List Pane → Spot
spot_of [] ps = nowhere
spot_of (q ∷ qs) [] = nowhere
spot_of (q ∷ qs) (p ∷ ps) = spot_in q.rect p.term

unfoldable pub spot : Glass → Spot
spot g = spot_of (place_of_focus g) (pane_of g (current g).focus)

-- in how many cells two rows differ, and two pictures
unfoldable pub row_differs : List Cell → List Cell → ℕ
row_differs [] [] = 0
row_differs [] (y ∷ ys) = suc (row_differs [] ys)
row_differs (x ∷ xs) [] = suc (row_differs xs [])
row_differs (x ∷ xs) (y ∷ ys) = pick (same_cell x y) 0 1 + row_differs xs ys

unfoldable pub differs : Rows → Rows → ℕ
differs [] [] = 0
differs [] (s ∷ ss) = row_differs [] s + differs [] ss
differs (r ∷ rs) [] = row_differs r [] + differs rs []
differs (r ∷ rs) (s ∷ ss) = row_differs r s + differs rs ss
