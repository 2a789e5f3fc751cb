-- Laws of screens and of the plain glass, each stated here and proved as the contract of a function of this crate or of one above it.
use Rattle.std.specs.Prelude.{◌≡◌, ℕ, zero, suc, ◌+◌, ◌*◌, ◌<◌, ◌≤◌, Bool, true, false, ◌&&◌, List, [], ◌∷◌, ◌++◌, length, ◌==◌, nat_eq, nat_le, nat_lt}
use Rattle.meaning.specs.Words.{pick, or, every}
use Rattle.meaning.specs.Screen.{Style, Cell, Term, fresh, save, restore, row_on, row_back, at}
use Rattle.meaning.specs.Bytes.{byte, written}
use Rattle.meaning.specs.Panes.{Glass, key, send, turn, current, Layout, places, Rect, Place}
use Rattle.meaning.specs.Picture.{picture, differs}

-- Bytes can be written in two parts, cut anywhere.
abbrev pub InParts : Type 0
InParts = (t : Term) (as₁ bs : List ℕ) → written t (as₁ ++ bs) ≡ written (written t as₁) bs

-- a screen that is as large as it says, with its cursor on it and its scroll region within it
unfoldable pub good : Term → Bool
good t =
    (length t.rows == t.high && every (λ r. nat_eq (length r) t.wide) t.rows)
    && ((nat_lt t.row t.high && nat_lt t.col t.wide) && (nat_le t.top t.bottom && nat_lt t.bottom t.high))

-- A screen keeps its size whatever is written, and its cursor stays on it.
abbrev pub StaysGood : Type 0
StaysGood = (t : Term) (c : ℕ) → c < 256 → good t ≡ true → (good (byte t c) ≡ true) × ((byte t c).wide ≡ t.wide) × ((byte t c).high ≡ t.high)

abbrev pub colour : ℕ → Bool
colour k = or (nat_lt k 8) (k == 9)

-- every cell can be drawn: a printable character, marks below 8, colours 0 to 7 or the default
unfoldable pub drawable : Term → Bool
drawable t = every (λ r. every (λ c. (nat_le 32 c.sign && nat_le c.sign 126) && (nat_lt c.style.marks 8 && (colour c.style.fore && colour c.style.back))) r) t.rows

-- Any such screen can be written on a fresh one of its size, within the bytes granted for the cells that differ.
abbrev pub Drawn : Type 0
Drawn =
    (t : Term) → good t ≡ true → drawable t ≡ true → t.wide ≤ 200 → t.high ≤ 60 →
    (bs : List ℕ) × ((written (fresh t.wide t.high) bs).rows ≡ t.rows)
    × (length bs ≤ 64 + 32 * differs (fresh t.wide t.high).rows t.rows)

unfoldable pub covers : Rect → ℕ → ℕ → Bool
covers r x y = (nat_le r.x x && nat_lt x (r.x + r.wide)) && (nat_le r.y y && nat_lt y (r.y + r.high))

-- how many of the places have the cell in column x and row y
unfoldable pub how_often : List Place → ℕ → ℕ → ℕ
how_often [] x y = 0
how_often (p ∷ ps) x y = pick (covers p.rect x y) 1 0 + how_often ps x y

-- The places of a layout share its part of the screen: no two overlap, and none sticks out.
abbrev pub Shared : Type 0
Shared = (l : Layout) (r : Rect) (x y : ℕ) → (how_often (places l r) x y ≤ 1) × (0 < how_often (places l r) x y → covers r x y ≡ true)

-- Restoring brings back the cursor, the style and origin mode that were saved, on a screen of the same size.
abbrev pub Restored : Type 0
Restored =
    (t u : Term) → good t ≡ true → u.wide ≡ t.wide → u.high ≡ t.high → u.saved ≡ (save t).saved →
    ((restore u).row ≡ t.row) × ((restore u).col ≡ t.col) × ((restore u).style ≡ t.style) × ((restore u).origin ≡ t.origin)

-- A row down and a row up, within the scroll region and not at its last row, is where the cursor was.
abbrev pub OnAndBack : Type 0
OnAndBack = (t : Term) → good t ≡ true → t.top ≤ t.row → t.row < t.bottom → row_back (row_on t) ≡ at t t.row t.col

-- Keys but the prefix go to the pane with the focus, each once.
abbrev pub KeysGo : Type 0
KeysGo =
    (known : ℕ → Bool) (g : Glass) (c : ℕ) → g.attached ≡ true → g.prefix ≡ false → (c ≡ 1 → zero ≡ suc zero) →
    (turn known g (key c)).says ≡ send (current g).focus (c ∷ []) ∷ []

-- The picture has as many rows as the screen.
abbrev pub PictureLarge : Type 0
PictureLarge =
    (g : Glass) → 1 ≤ g.high →
    (length (picture g) ≡ g.high)

-- a style that can be drawn: marks below 8, colours 0 to 7 or the default
abbrev pub fine_style : Style → Bool
fine_style s = nat_lt s.marks 8 && (colour s.fore && colour s.back)

-- a cell that can be drawn: a printable character in such a style
abbrev pub fine_cell : Cell → Bool
fine_cell c = (nat_le 32 c.sign && nat_le c.sign 126) && fine_style c.style

-- every cell can be drawn, and so can what is written next: the style in force and the saved one are such styles
unfoldable pub fine_screen : Term → Bool
fine_screen t = drawable t && (fine_style t.style && fine_style t.saved.style)

-- Whatever is written on such a screen can be drawn.
abbrev pub StaysDrawable : Type 0
StaysDrawable = (t : Term) (c : ℕ) → c < 256 → fine_screen t ≡ true → fine_screen (byte t c) ≡ true
