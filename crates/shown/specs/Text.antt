-- A screen written out as text: each row on a line, without the blanks at its end, and then where the cursor is.
use Rattle.std.specs.Prelude.{ℕ, suc, ◌&&◌, List, [], ◌∷◌, ◌++◌, codes, ◌==◌, nat_le}
use Rattle.meaning.specs.Words.{pick, none_of, flat}
use Rattle.meaning.specs.Screen.{Cell, Term}
use Rattle.meaning.specs.Bytes.{in_digits}

-- the byte for a cell, whatever its style; a question mark for what can't be printed
abbrev pub shown_sign : Cell → ℕ
shown_sign c = pick (nat_le 32 c.sign && nat_le c.sign 126) c.sign 63

-- a row up to its last cell that is no blank
unfoldable pub row_text : List Cell → List ℕ
row_text [] = []
row_text (c ∷ cs) = pick (c.sign == 32 && none_of (row_text cs)) [] (shown_sign c ∷ row_text cs)

abbrev pub row_line : List Cell → List ℕ
row_line r = row_text r ++ 10 ∷ []

abbrev pub rows_text : List (List Cell) → List ℕ
rows_text rs = flat row_line rs

-- row and column from 1
abbrev pub cursor_line : Term → List ℕ
cursor_line t = pick t.shown (codes "cursor " ++ (in_digits (suc t.row) ++ (32 ∷ [] ++ (in_digits (suc t.col) ++ 10 ∷ [])))) (codes "cursor hidden\n")

abbrev pub screen_text : Term → List ℕ
screen_text t = rows_text t.rows ++ cursor_line t
