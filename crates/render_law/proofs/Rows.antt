-- Rows that can be drawn as flat numbers, and back.
use Rattle.std.proofs.Common.{◌≡◌, ℕ, ◌*◌, true, ◌&&◌, ltb, leb, List, [], ◌∷◌, map, length, refl, ap, suc-mul, zero-mul, arith, length-append}
use Rattle.std.specs.List.{AllByRecursion}
use Rattle.std.proofs.lemmas.List.{length-map, map-append, take_at, drop_at}
use Rattle.std.proofs.lemmas.Bool.{and_parts, leb-true, ltb-true}
use Rattle.meaning.specs.Words.{every}
use Rattle.meaning.specs.Screen.{Cell}
use Rattle.meaning.specs.Laws.{colour, fine_cell}
use Rattle.grid.specs.Cells.{packed, unpacked, pieces, rows_of, cells_of}
use Rattle.grid.proofs.Codes.{unpacked_packed}
use Rattle.render_law.proofs.Sequences.{colour_small}

fine_back : (c : Cell) → fine_cell c ≡ true → unpacked (packed c) ≡ c
fine_back c e =
    let p = and_parts (leb 32 c.sign && leb c.sign 126) _ e in
    let s = leb-true c.sign 126 (and_parts (leb 32 c.sign) _ p.0).1 in
    let q = and_parts (ltb c.style.marks 8) _ p.1 in
    let m = ltb-true c.style.marks 8 q.0 in
    let f = colour_small c.style.fore (and_parts (colour c.style.fore) _ q.1).0 in
    unpacked_packed c (omega arith) (omega arith) (omega arith)

row_back : (r : List Cell) → every fine_cell r ≡ true → map unpacked (map packed r) ≡ r
row_back [] e = refl
row_back (c ∷ r) e =
    let p = and_parts (fine_cell c) _ e in
    let a = fine_back c p.0 in
    let b = row_back r p.1 in
    λ i. a i ∷ b i

pub rows_of_cells : (w : ℕ) (rs : List (List Cell)) → AllByRecursion (λ r. length r ≡ w) rs → every (λ r. every fine_cell r) rs ≡ true → rows_of w (length rs) (cells_of rs) ≡ rs
unfolding rows_of pieces cells_of
rows_of_cells w [] l e = refl
rows_of_cells w (r ∷ rs) l e =
    let p = and_parts (every fine_cell r) _ e in
    let h = row_back r p.0 in
    let n : length r ≡ w = l.0 in
    rw (map-append unpacked (map packed r) (cells_of rs), h, take_at r (map unpacked (cells_of rs)) w n, drop_at r (map unpacked (cells_of rs)) w n)
    (ap (λ (t : List (List Cell)). r ∷ t) (rows_of_cells w rs l.1 p.1))

pub length_cells : (w : ℕ) (rs : List (List Cell)) → AllByRecursion (λ r. length r ≡ w) rs → length (cells_of rs) ≡ length rs * w
unfolding cells_of
length_cells w [] l = omega (arith, zero-mul w)
length_cells w (r ∷ rs) l =
    let n : length r ≡ w = l.0 in
    let e = length_cells w rs l.1 in
    rw (length-append (map packed r) (cells_of rs), length-map) (omega (arith, suc-mul (length rs) w))
