-- What holds of each element, row or cell, still holds after the edits of rows and of cells; and how long the edits leave them.
use Rattle.std.proofs.Common.{◌≡◌, ℕ, zero, suc, ◌+◌, ◌-◌, ◌<◌, ◌≤◌, Bool, List, [], ◌∷◌, length, take, drop, replicate, Decides, refl, arith, length-append, length-drop, length-take}
use lib.ListN.{length-replicate}
use Rattle.std.specs.List.{AllByRecursion}
use Rattle.std.proofs.ByRecursion.{All-append, All-take, All-drop, Decides-by_and}
use Rattle.meaning.specs.Words.{every, so_many, smaller, larger}
use Rattle.meaning.specs.Screen.{Cell, blank, blank_row, row_at, scrolled_up, scrolled_down, opened, closed, wiped, fitted_row}

pub decides_every : {A : Type 0} (p : A → Bool) (P : A → Type 0) → ((x : A) → Decides (p x) (P x)) → (xs : List A) → Decides (every p xs) (AllByRecursion P xs)
decides_every p P d xs = Decides-by_and p P (every p) d refl (λ _ _. refl) xs

pub all_replicate : {A : Type 0} (P : A → Type 0) (n : ℕ) (x : A) → P x → AllByRecursion P (replicate n x)
all_replicate P zero x p = tt
all_replicate P (suc n) x p = (p, all_replicate P n x p)

pub row_at_has : (P : List Cell → Type 0) (rs : List (List Cell)) (k : ℕ) → k < length rs → AllByRecursion P rs → P (row_at rs k)
row_at_has P [] k h p = absurd (omega arith)
row_at_has P (r ∷ rs) zero h p = p.0
row_at_has P (r ∷ rs) (suc k) h p = row_at_has P rs k (omega arith) p.1

pub row_at_has_or : (P : List Cell → Type 0) (rs : List (List Cell)) (k : ℕ) → P [] → AllByRecursion P rs → P (row_at rs k)
row_at_has_or P [] zero e p = e
row_at_has_or P [] (suc k) e p = e
row_at_has_or P (r ∷ rs) zero e p = p.0
row_at_has_or P (r ∷ rs) (suc k) e p = row_at_has_or P rs k e p.1

-- rows scrolled
module _ (P : List Cell → Type 0) (w : ℕ) (b : P (blank_row w)) where
  pub all_scrolled_up : (rs : List (List Cell)) (top bottom k : ℕ) → AllByRecursion P rs → AllByRecursion P (scrolled_up w rs top bottom k)
  all_scrolled_up rs top bottom k p =
      All-append P _ (drop (suc bottom) rs)
      (All-append P _ (so_many (smaller k (suc bottom - top)) (blank_row w))
      (All-append P (take top rs) _ (All-take P top rs p) (All-drop P k _ (All-take P (suc bottom - top) _ (All-drop P top rs p))))
      (all_replicate P _ (blank_row w) b))
      (All-drop P (suc bottom) rs p)

  pub all_scrolled_down : (rs : List (List Cell)) (top bottom k : ℕ) → AllByRecursion P rs → AllByRecursion P (scrolled_down w rs top bottom k)
  all_scrolled_down rs top bottom k p =
      All-append P _ (drop (suc bottom) rs)
      (All-append P _ (take (suc bottom - top - k) (drop top rs))
      (All-append P (take top rs) _ (All-take P top rs p) (all_replicate P _ (blank_row w) b))
      (All-take P (suc bottom - top - k) _ (All-drop P top rs p)))
      (All-drop P (suc bottom) rs p)

pub length_scrolled_up : (w : ℕ) (rs : List (List Cell)) (top bottom k : ℕ) → top ≤ bottom → bottom < length rs → length (scrolled_up w rs top bottom k) ≡ length rs
length_scrolled_up w rs top bottom k p q = simp (length-append, length-take, length-drop, length-replicate) (omega arith)

pub length_scrolled_down : (w : ℕ) (rs : List (List Cell)) (top bottom k : ℕ) → top ≤ bottom → bottom < length rs → length (scrolled_down w rs top bottom k) ≡ length rs
length_scrolled_down w rs top bottom k p q = simp (length-append, length-take, length-drop, length-replicate) (omega arith)

-- cells of a row inserted, deleted, erased, cut to another width
module _ (C : Cell → Type 0) (b : C blank) where
  pub all_opened : (w c k : ℕ) (r : List Cell) → AllByRecursion C r → AllByRecursion C (opened w c k r)
  all_opened w c k r p =
      All-take C w _ (All-append C _ (drop c r) (All-append C (take c r) _ (All-take C c r p) (all_replicate C k blank b)) (All-drop C c r p))

  pub all_closed : (w c k : ℕ) (r : List Cell) → AllByRecursion C r → AllByRecursion C (closed w c k r)
  all_closed w c k r p =
      All-append C _ (so_many (smaller k (w - c)) blank) (All-append C (take c r) _ (All-take C c r p) (All-drop C (c + k) r p)) (all_replicate C _ blank b)

  pub all_wiped : (from to : ℕ) (r : List Cell) → AllByRecursion C r → AllByRecursion C (wiped from to r)
  all_wiped from to r p =
      All-append C _ (drop (larger from to) r)
      (All-append C (take from r) _ (All-take C from r p) (all_replicate C (smaller to (length r) - from) blank b)) (All-drop C _ r p)

  pub all_fitted_row : (w : ℕ) (r : List Cell) → AllByRecursion C r → AllByRecursion C (fitted_row w r)
  all_fitted_row w r p = All-take C w _ (All-append C r _ p (all_replicate C w blank b))

pub length_opened : (w c k : ℕ) (r : List Cell) → length r ≡ w → length (opened w c k r) ≡ w
length_opened w c k r e = simp (length-append, length-take, length-drop, length-replicate) (omega arith)

pub length_closed : (w c k : ℕ) (r : List Cell) → length r ≡ w → length (closed w c k r) ≡ w
length_closed w c k r e = simp (length-append, length-take, length-drop, length-replicate) (omega arith)

pub length_wiped : (w from to : ℕ) (r : List Cell) → length r ≡ w → length (wiped from to r) ≡ w
length_wiped w from to r e = simp (length-append, length-take, length-drop, length-replicate) (omega arith)

pub length_fitted_row : (w : ℕ) (r : List Cell) → length (fitted_row w r) ≡ w
length_fitted_row w r = simp (length-append, length-take, length-replicate) (omega arith)
