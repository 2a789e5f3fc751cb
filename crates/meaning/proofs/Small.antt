-- The numbers of every cell and style fit where memory keeps them, whatever a screen began as: every byte leaves it so, and so does another size.
use Rattle.std.proofs.Common.{◌≡◌, ℕ, ◌+◌, ◌-◌, ◌^◌, ◌<◌, true, ◌&&◌, eqb, leb, List, arith}
use Rattle.std.specs.List.{AllByRecursion}
use Rattle.std.proofs.ByRecursion.{All-weaker}
use Rattle.std.proofs.lemmas.Bool.Decides.{nat_tests}
use Rattle.std.proofs.lemmas.Bool.{and_parts, leb-true, cond_both}
use Rattle.meaning.specs.Screen.{Style, Cell, Term, fresh, with_answer, marked, styled_one, styled, fitted}
use Rattle.meaning.specs.Bytes.{byte, written}
use Rattle.meaning.specs.Laws.{fine_style, fine_cell}
use Rattle.meaning.proofs.Controls.{pick_both}
use Rattle.meaning.proofs.Cellwise.{HoldsFields, Rules, holds_styled, holds_fresh, holds_fitted, holds_answer, holds_byte, holds_written}
use Rattle.meaning.proofs.Drawable.{CellFine, FineRow, Fine}

pub record StyleSmall (s : Style) : Type 0 where
  pub marks : s.marks < 2 ^ 16
  pub fore : s.fore < 2 ^ 8
  pub back : s.back < 2 ^ 8

pub record CellSmall (c : Cell) : Type 0 where
  pub sign : c.sign < 2 ^ 32
  pub style : StyleSmall c.style

abbrev pub SmallRow : List Cell → Type 0
SmallRow r = AllByRecursion CellSmall r

abbrev pub SmallFields : List (List Cell) → Style → Style → Type 0
SmallFields rows style saved = HoldsFields CellSmall StyleSmall rows style saved

abbrev pub Small : Term → Type 0
Small t = SmallFields t.rows t.style t.saved.style

-- what one number of SGR leaves
small_marked : (s : Style) (m : ℕ) → StyleSmall s → m < 2 ^ 16 → StyleSmall (marked s m)
small_marked s m p h = record { marks = h; fore = p.fore; back = p.back }

small_fore : (s : Style) (k : ℕ) → StyleSmall s → k < 2 ^ 8 → StyleSmall (record { marks = s.marks; fore = k; back = s.back })
small_fore s k p h = record { marks = p.marks; fore = h; back = p.back }

small_ground : (s : Style) (k : ℕ) → StyleSmall s → k < 2 ^ 8 → StyleSmall (record { marks = s.marks; fore = s.fore; back = k })
small_ground s k p h = record { marks = p.marks; fore = p.fore; back = h }

-- the kth of eight colours, told by a number from a on
small_told : (a n : ℕ) → (leb a n && leb n (a + 7)) ≡ true → n - a < 2 ^ 8
small_told a n e = let p = leb-true n (a + 7) (and_parts (leb a n) _ e).1 in omega arith

-- a mark is added only where it is not set, so the sum stays within its bits
small_styled_one : (s : Style) (n : ℕ) → StyleSmall s → StyleSmall (styled_one s n)
small_styled_one s n p =
    let m = p.marks in
    pick_both StyleSmall (eqb n 0) _ _ (record { marks = omega arith; fore = omega arith; back = omega arith })
    (pick_both StyleSmall (eqb n 1) _ _ (small_marked s _ p (grind (arith, nat_tests))) (pick_both StyleSmall (eqb n 4) _ _ (small_marked s _ p (grind (arith, nat_tests)))
    (pick_both StyleSmall (eqb n 7) _ _ (small_marked s _ p (grind (arith, nat_tests))) (pick_both StyleSmall (eqb n 22) _ _ (small_marked s _ p (grind (arith, nat_tests)))
    (pick_both StyleSmall (eqb n 24) _ _ (small_marked s _ p (grind (arith, nat_tests))) (pick_both StyleSmall (eqb n 27) _ _ (small_marked s _ p (grind (arith, nat_tests)))
    (cond_both (leb 30 n && leb n 37) _ _ StyleSmall (λ e. small_fore s (n - 30) p (small_told 30 n e)) (λ _. pick_both StyleSmall (eqb n 39) _ _ (small_fore s 9 p (omega arith))
    (cond_both (leb 40 n && leb n 47) _ _ StyleSmall (λ e. small_ground s (n - 40) p (small_told 40 n e)) (λ _. pick_both StyleSmall (eqb n 49) _ _ (small_ground s 9 p (omega arith)) p))))))))))

small_rules : Rules CellSmall StyleSmall
small_rules = record {
  blanks = record { sign = omega arith; style = record { marks = omega arith; fore = omega arith; back = omega arith } };
  plain = record { marks = omega arith; fore = omega arith; back = omega arith };
  restyles = small_styled_one;
  prints = λ c s _ q p. record { sign = omega arith; style = p };
}

pub small_styled : (s : Style) (ns : List ℕ) → StyleSmall s → StyleSmall (styled s ns)
small_styled = holds_styled CellSmall StyleSmall small_rules

pub small_fresh : (w h : ℕ) → Small (fresh w h)
small_fresh = holds_fresh CellSmall StyleSmall small_rules

pub small_fitted : (t : Term) (w h : ℕ) → Small t → Small (fitted t w h)
small_fitted = holds_fitted CellSmall StyleSmall small_rules

pub small_answer : (t : Term) (a : List ℕ) → Small t → Small (with_answer t a)
small_answer = holds_answer CellSmall StyleSmall small_rules

pub small_byte : (t : Term) (c : ℕ) → Small t → Small (byte t c)
small_byte = holds_byte CellSmall StyleSmall small_rules

pub small_written : (t : Term) (cs : List ℕ) → Small t → Small (written t cs)
small_written = holds_written CellSmall StyleSmall small_rules

-- what can be drawn is small
pub fine_style_small : (s : Style) → fine_style s ≡ true → StyleSmall s
fine_style_small s e = record { marks = grind (arith, nat_tests); fore = grind (arith, nat_tests); back = grind (arith, nat_tests) }

pub fine_cell_small : (c : Cell) → fine_cell c ≡ true → CellSmall c
fine_cell_small c e = let p = and_parts (leb 32 c.sign && leb c.sign 126) _ e in record { sign = grind (arith, nat_tests); style = fine_style_small c.style p.1 }

pub fine_small : (t : Term) → Fine t → Small t
fine_small t f = record {
  cells = All-weaker FineRow SmallRow (All-weaker CellFine CellSmall fine_cell_small) t.rows f.cells;
  writes = fine_style_small t.style f.writes;
  saves = fine_style_small t.saved.style f.saves;
}
