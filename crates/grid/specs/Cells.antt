-- How a flat list of numbers, row after row, stands for a screen's rows. One number is one cell, and every number below 2^64 is one.
use Rattle.std.specs.Prelude.{ℕ, zero, suc, ◌+◌, ◌*◌, ◌/◌, ◌%◌, ◌^◌, Bool, ◌&&◌, List, [], ◌∷◌, ◌++◌, map, take, drop, nat_lt}
use Rattle.meaning.specs.Screen.{Style, Cell}
use Rattle.grid.specs.declared.cell.Rendition.{Rendition}
use Rattle.grid.specs.declared.cell.Glyph.{Glyph}

-- a cell as one number: 32 bits of sign, then 16 of marks, 8 of fore and 8 of ground
abbrev pub packed : Cell → ℕ
packed c = c.sign + 2 ^ 32 * c.style.marks + 2 ^ 48 * c.style.fore + 2 ^ 56 * c.style.back

abbrev pub unpacked : ℕ → Cell
unpacked n = record { sign = n % 2 ^ 32; style = record { marks = n / 2 ^ 32 % 2 ^ 16; fore = n / 2 ^ 48 % 2 ^ 8; back = n / 2 ^ 56 } }

-- can this cell be packed and unpacked without loss?
abbrev pub cell_fits : Cell → Bool
cell_fits c = nat_lt c.sign (2 ^ 32) && (nat_lt c.style.marks (2 ^ 16) && nat_lt c.style.fore (2 ^ 8))

-- the number of a blank cell
abbrev pub blank_number : ℕ
blank_number = 651051621131747360

-- what the code's values stand for
abbrev pub style_of : Rendition → Style
style_of r = record { marks = r.marks; fore = r.fore; back = r.back }

abbrev pub cell_of : Glyph → Cell
cell_of g = record { sign = g.sign; style = style_of g.rendition }

-- a style alone, as a cell without a sign
abbrev pub unsigned : Style → Cell
unsigned s = record { sign = 0; style = s }

-- a list cut into h pieces of w
unfoldable pub pieces : {A : Type 0} → ℕ → ℕ → List A → List (List A)
pieces w zero xs = []
pieces w (suc h) xs = take w xs ∷ pieces w h (drop w xs)

unfoldable pub rows_of : ℕ → ℕ → List ℕ → List (List Cell)
rows_of w h xs = pieces w h (map unpacked xs)

-- rows as numbers again
unfoldable pub cells_of : List (List Cell) → List ℕ
cells_of [] = []
cells_of (r ∷ rs) = map packed r ++ cells_of rs
