-- Cells and numbers, rows and flat lists: one for one.
use Rattle.std.proofs.Common.{◌≡◌, ℕ, zero, suc, ◌+◌, ◌*◌, ◌/◌, ◌^◌, ◌<◌, true, ◌&&◌, eqb, ltb, List, [], ◌∷◌, map, length, drop, sym, refl, ap, ◌∙◌, ap₂, suc-mul, zero-mul, arith}
use Rattle.std.proofs.lemmas.List.{take-append-drop, length-drop, length-append, length-map, take-map, drop-map, nil_from_length, take_at, drop_at}
use Rattle.std.proofs.lemmas.Bool.{and_parts, ltb-true, eqb-true}
use Rattle.meaning.specs.Words.{every}
use Rattle.meaning.specs.Screen.{Cell, blank}
use Rattle.grid.specs.Cells.{packed, unpacked, cell_fits, blank_number, pieces, rows_of, cells_of}

pub packed_unpacked : (n : ℕ) → packed (unpacked n) ≡ n
packed_unpacked n = omega arith

pub unpacked_packed : (c : Cell) → c.sign < 2 ^ 32 → c.style.marks < 2 ^ 16 → c.style.fore < 2 ^ 8 → unpacked (packed c) ≡ c
unpacked_packed c a b d =
    let s : (unpacked (packed c)).sign ≡ c.sign = omega arith in
    let p : packed c / 2 ^ 32 ≡ c.style.marks + 2 ^ 16 * (c.style.fore + 2 ^ 8 * c.style.back) = omega arith in
    let q : packed c / 2 ^ 48 ≡ c.style.fore + 2 ^ 8 * c.style.back = omega arith in
    let m : (unpacked (packed c)).style.marks ≡ c.style.marks = rw p (omega arith) in
    let f : (unpacked (packed c)).style.fore ≡ c.style.fore = rw q (omega arith) in
    let g : (unpacked (packed c)).style.back ≡ c.style.back = omega arith in
    rw (s, m, f, g)

pub blank_is : unpacked blank_number ≡ blank
blank_is = refl

pub map_packed_unpacked : (xs : List ℕ) → map packed (map unpacked xs) ≡ xs
map_packed_unpacked [] = refl
map_packed_unpacked (x ∷ xs) = rw (packed_unpacked x, map_packed_unpacked xs)

cells_of_pieces : (w h : ℕ) (xs : List ℕ) → length xs ≡ h * w → cells_of (pieces w h (map unpacked xs)) ≡ xs
unfolding cells_of pieces
cells_of_pieces w zero xs e = sym (nil_from_length xs (e ∙ zero-mul w))
cells_of_pieces w (suc h) xs e =
    let l : length (drop w xs) ≡ h * w = simp length-drop (omega (arith, suc-mul h w)) in
    rw (take-map, drop-map, map_packed_unpacked, cells_of_pieces w h (drop w xs) l) (take-append-drop w xs)

pub cells_of_rows : (w h : ℕ) (xs : List ℕ) → length xs ≡ h * w → cells_of (rows_of w h xs) ≡ xs
unfolding rows_of
cells_of_rows w h xs e = cells_of_pieces w h xs e

pub unpacked_packed_fits : (c : Cell) → cell_fits c ≡ true → unpacked (packed c) ≡ c
unpacked_packed_fits c e =
    let p = and_parts (ltb c.sign (2 ^ 32)) (ltb c.style.marks (2 ^ 16) && ltb c.style.fore (2 ^ 8)) e in
    let q = and_parts (ltb c.style.marks (2 ^ 16)) (ltb c.style.fore (2 ^ 8)) p.1 in
    unpacked_packed c (ltb-true _ _ p.0) (ltb-true _ _ q.0) (ltb-true _ _ q.1)

pub map_unpacked_packed : (cs : List Cell) → every cell_fits cs ≡ true → map unpacked (map packed cs) ≡ cs
map_unpacked_packed [] e = refl
map_unpacked_packed (c ∷ cs) e =
    let p = and_parts (cell_fits c) (every cell_fits cs) e in
    ap₂ (λ (x : Cell) (xs : List Cell). x ∷ xs) (unpacked_packed_fits c p.0) (map_unpacked_packed cs p.1)

-- rows of w cells each, all of which fit, are what their numbers stand for
pub rows_of_cells : (w : ℕ) (rs : List (List Cell)) → every (λ r. eqb (length r) w) rs ≡ true → every (every cell_fits) rs ≡ true → rows_of w (length rs) (cells_of rs) ≡ rs
unfolding rows_of cells_of pieces
rows_of_cells w [] e f = refl
rows_of_cells w (r ∷ rs) e f =
    let p = and_parts (eqb (length r) w) (every (λ x. eqb (length x) w) rs) e in
    let q = and_parts (every cell_fits r) (every (every cell_fits) rs) f in
    let l : length (map packed r) ≡ w = rw length-map (eqb-true _ _ p.0) in
    rw (take-map, drop-map, take_at (map packed r) (cells_of rs) w l, drop_at (map packed r) (cells_of rs) w l, map_unpacked_packed r q.0)
    (ap (λ (xs : List (List Cell)). r ∷ xs) (rows_of_cells w rs p.1 q.1))

pub length_cells : (w : ℕ) (rs : List (List Cell)) → every (λ r. eqb (length r) w) rs ≡ true → length (cells_of rs) ≡ length rs * w
unfolding cells_of
length_cells w [] e = sym (zero-mul w)
length_cells w (r ∷ rs) e =
    let p = and_parts (eqb (length r) w) (every (λ x. eqb (length x) w) rs) e in
    simp (length-append, length-map) (omega (arith, eqb-true _ _ p.0, length_cells w rs p.1, suc-mul (length rs) w))
