-- Counting the cells in which two screens differ, and looking for a leave among acts.
use Rattle.std.proofs.Common.{◌≡◌, ℕ, ◌+◌, ◌*◌, ◌<◌, ◌≤◌, min, Bool, true, false, not, eqb, List, [], ◌∷◌, length, get_or, drop, sym, refl, ◌∙◌, arith}
use Rattle.std.proofs.lemmas.List.{at_drop_more, length-drop}
use Rattle.std.proofs.lemmas.Bool.{eq-eqb, ne_eqb}
use Rattle.meaning.specs.Words.{pick, any}
use Rattle.meaning.specs.Picture.{differs}
use Rattle.meaning.specs.declared.answer.Told.{Told}
use Rattle.grid.specs.Cells.{rows_of}
use Rattle.render_law.specs.Law.{differing}
use Rattle.render_law.proofs.Law.{writer_law}
use Rattle.player.specs.Grants.{is_leave, still_attached}

cells_here : (xs ys : List ℕ) (i : ℕ) → i < length xs → i < length ys → differing (drop i xs) (drop i ys) ≡ pick (eqb (get_or xs i 0) (get_or ys i 0)) 0 1 + differing (drop (i + 1) xs) (drop (i + 1) ys)
unfolding differing
cells_here xs ys i h k = at_drop_more (λ (us : List ℕ). differing us (drop i ys)) xs i 0 h ∙ at_drop_more (λ (us : List ℕ). differing (get_or xs i 0 ∷ drop (i + 1) xs) us) ys i 0 k

pub one_same : (xs ys : List ℕ) (i n all : ℕ) → i < length xs → i < length ys → get_or xs i 0 ≡ get_or ys i 0 → n + differing (drop i xs) (drop i ys) ≡ all → n + differing (drop (i + 1) xs) (drop (i + 1) ys) ≡ all
one_same xs ys i n all h k e p = let q = cells_here xs ys i h k in let t = eq-eqb (get_or xs i 0) (get_or ys i 0) e in let q₁ = rw t at q in omega arith

pub one_other : (xs ys : List ℕ) (i n all : ℕ) → i < length xs → i < length ys → (get_or xs i 0 ≡ get_or ys i 0 → ⊥) → n + differing (drop i xs) (drop i ys) ≡ all → n + 1 + differing (drop (i + 1) xs) (drop (i + 1) ys) ≡ all
one_other xs ys i n all h k e p = let q = cells_here xs ys i h k in let t = ne_eqb (get_or xs i 0) (get_or ys i 0) e in let q₁ = rw t at q in omega arith

-- behind the end of either nothing differs
none_differ : (us vs : List ℕ) → min (length us) (length vs) ≤ 0 → differing us vs ≡ 0
unfolding differing
none_differ [] vs l = refl
none_differ (u ∷ us) [] l = refl
none_differ (u ∷ us) (v ∷ vs) l = absurd (omega arith)

pub none_left : (xs ys : List ℕ) (i n all : ℕ) → min (length xs) (length ys) ≤ i → n + differing (drop i xs) (drop i ys) ≡ all → n ≡ all
none_left xs ys i n all h p = let z : differing (drop i xs) (drop i ys) ≡ 0 = none_differ (drop i xs) (drop i ys) (simp length-drop (omega arith)) in omega arith

pub by_rows : (xs ys : List ℕ) (r : ℕ) → r ≡ differing xs ys → (w h : ℕ) → length xs ≡ h * w → length ys ≡ h * w → r ≡ differs (rows_of w h xs) (rows_of w h ys)
by_rows xs ys r e w h p q = e ∙ sym (writer_law.flat w h xs ys p q)

pub attached_still : (rs : List Told) (attached left : Bool) → left ≡ any is_leave rs → attached ≡ true → not left ≡ still_attached attached rs
attached_still rs attached left e h = rw (h, ← e) (by left)
  where
    by : (b : Bool) → not b ≡ pick b false true
    by true = refl
    by false = refl
