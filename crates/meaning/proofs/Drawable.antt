-- A fine screen can be drawn, cell by cell, and so can what is written next on it; every byte leaves it so, and so does another size.
use Rattle.std.proofs.Common.{◌≡◌, ℕ, ◌+◌, ◌-◌, ◌<◌, ◌≤◌, true, ◌&&◌, eqb, ltb, leb, List, Decides, refl, arith}
use Rattle.std.specs.List.{AllByRecursion}
use Rattle.std.proofs.lemmas.Bool.Decides.{nat_tests}
use Rattle.std.proofs.lemmas.Bool.{and_parts, and_from, or_left, ltb-true, leb-true, lt-ltb, le-leb, cond_both}
use Rattle.meaning.specs.Words.{every}
use Rattle.meaning.specs.Screen.{Style, Cell, Term, fresh, with_answer, printed, marked, styled_one, styled, fitted}
use Rattle.meaning.specs.Bytes.{byte, written}
use Rattle.meaning.specs.Laws.{colour, drawable, fine_style, fine_cell, fine_screen, StaysDrawable}
use Rattle.meaning.proofs.Controls.{pick_both}
use Rattle.meaning.proofs.Edits.{decides_every}
use Rattle.meaning.proofs.Cellwise.{HoldsFields, Rules, holds_styled, holds_printed, holds_fresh, holds_fitted, holds_answer, holds_byte, holds_written}

abbrev pub StyleFine : Style → Type 0
StyleFine s = fine_style s ≡ true

abbrev pub CellFine : Cell → Type 0
CellFine c = fine_cell c ≡ true

abbrev pub FineRow : List Cell → Type 0
FineRow r = AllByRecursion CellFine r

abbrev pub FineFields : List (List Cell) → Style → Style → Type 0
FineFields rows style saved = HoldsFields CellFine StyleFine rows style saved

abbrev pub Fine : Term → Type 0
Fine t = FineFields t.rows t.style t.saved.style

-- what one number of SGR leaves
fine_marked : (s : Style) (m : ℕ) → fine_style s ≡ true → m < 8 → fine_style (marked s m) ≡ true
fine_marked s m f h = and_from (ltb m 8) _ (lt-ltb m 8 h) (and_parts (ltb s.marks 8) _ f).1

marks_small : (s : Style) → fine_style s ≡ true → s.marks < 8
marks_small s f = ltb-true s.marks 8 (and_parts (ltb s.marks 8) _ f).0

fine_fore : (s : Style) (k : ℕ) → fine_style s ≡ true → colour k ≡ true → fine_style (record { marks = s.marks; fore = k; back = s.back }) ≡ true
fine_fore s k f h =
    let p = and_parts (ltb s.marks 8) _ f in
    and_from (ltb s.marks 8) _ p.0 (and_from (colour k) _ h (and_parts (colour s.fore) _ p.1).1)

fine_ground : (s : Style) (k : ℕ) → fine_style s ≡ true → colour k ≡ true → fine_style (record { marks = s.marks; fore = s.fore; back = k }) ≡ true
fine_ground s k f h =
    let p = and_parts (ltb s.marks 8) _ f in
    and_from (ltb s.marks 8) _ p.0 (and_from (colour s.fore) _ (and_parts (colour s.fore) _ p.1).0 h)

-- the kth of eight colours, told by a number from a on
colour_told : (a n : ℕ) → (leb a n && leb n (a + 7)) ≡ true → colour (n - a) ≡ true
colour_told a n e = let p = leb-true n (a + 7) (and_parts (leb a n) _ e).1 in or_left (ltb (n - a) 8) _ (lt-ltb (n - a) 8 (omega arith))

fine_styled_one : (s : Style) (n : ℕ) → fine_style s ≡ true → fine_style (styled_one s n) ≡ true
fine_styled_one s n f =
    let m = marks_small s f in
    pick_both StyleFine (eqb n 0) _ _ refl
    (pick_both StyleFine (eqb n 1) _ _ (fine_marked s _ f (grind (arith, nat_tests))) (pick_both StyleFine (eqb n 4) _ _ (fine_marked s _ f (grind (arith, nat_tests)))
    (pick_both StyleFine (eqb n 7) _ _ (fine_marked s _ f (grind (arith, nat_tests))) (pick_both StyleFine (eqb n 22) _ _ (fine_marked s _ f (grind (arith, nat_tests)))
    (pick_both StyleFine (eqb n 24) _ _ (fine_marked s _ f (grind (arith, nat_tests))) (pick_both StyleFine (eqb n 27) _ _ (fine_marked s _ f (grind (arith, nat_tests)))
    (cond_both (leb 30 n && leb n 37) _ _ StyleFine (λ e. fine_fore s (n - 30) f (colour_told 30 n e)) (λ _. pick_both StyleFine (eqb n 39) _ _ (fine_fore s 9 f refl)
    (cond_both (leb 40 n && leb n 47) _ _ StyleFine (λ e. fine_ground s (n - 40) f (colour_told 40 n e)) (λ _. pick_both StyleFine (eqb n 49) _ _ (fine_ground s 9 f refl) f))))))))))

fine_rules : Rules CellFine StyleFine
fine_rules = record {
  blanks = refl;
  plain = refl;
  restyles = fine_styled_one;
  prints = λ c s p q f. and_from _ _ (and_from _ _ (le-leb 32 c p) (le-leb c 126 q)) f;
}

pub fine_styled : (s : Style) (ns : List ℕ) → fine_style s ≡ true → fine_style (styled s ns) ≡ true
fine_styled = holds_styled CellFine StyleFine fine_rules

pub fine_printed : (t : Term) (c : ℕ) → 32 ≤ c → c ≤ 126 → Fine t → Fine (printed t c)
fine_printed = holds_printed CellFine StyleFine fine_rules

pub fine_fresh : (w h : ℕ) → Fine (fresh w h)
fine_fresh = holds_fresh CellFine StyleFine fine_rules

pub fine_fitted : (t : Term) (w h : ℕ) → Fine t → Fine (fitted t w h)
fine_fitted = holds_fitted CellFine StyleFine fine_rules

pub fine_answer : (t : Term) (a : List ℕ) → Fine t → Fine (with_answer t a)
fine_answer = holds_answer CellFine StyleFine fine_rules

pub fine_byte : (t : Term) (c : ℕ) → Fine t → Fine (byte t c)
fine_byte = holds_byte CellFine StyleFine fine_rules

pub fine_written : (t : Term) (cs : List ℕ) → Fine t → Fine (written t cs)
fine_written = holds_written CellFine StyleFine fine_rules

-- the statement's own word for it
rows_decide : (rs : List (List Cell)) → Decides (every (λ r. every fine_cell r) rs) (AllByRecursion FineRow rs)
rows_decide rs = decides_every (λ r. every fine_cell r) FineRow (λ r. decides_every fine_cell CellFine (λ c. (λ e. e, λ e. e)) r) rs

pub fine_screen_fine : (t : Term) → fine_screen t ≡ true → Fine t
unfolding fine_screen drawable
fine_screen_fine t e =
    let p = and_parts (drawable t) _ e in
    let q = and_parts (fine_style t.style) _ p.1 in
    record { cells = (rows_decide t.rows).0 p.0; writes = q.0; saves = q.1 }

pub fine_drawable : (t : Term) → Fine t → drawable t ≡ true
unfolding drawable
fine_drawable t f = (rows_decide t.rows).1 f.cells

pub fine_fine_screen : (t : Term) → Fine t → fine_screen t ≡ true
unfolding fine_screen
fine_fine_screen t f = and_from (drawable t) _ (fine_drawable t f) (and_from (fine_style t.style) _ f.writes f.saves)

pub stays_drawable : StaysDrawable
stays_drawable t c _ e = fine_fine_screen (byte t c) (fine_byte t c (fine_screen_fine t e))
