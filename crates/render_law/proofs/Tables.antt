-- Tests computed for all numbers below a bound.
use Rattle.std.proofs.Common.{◌≡◌, ℕ, zero, suc, ◌<◌, Bool, true, false, ◌&&◌, eqb, ◌⊎◌, List, [], ◌∷◌, refl, inl, inr, arith}
use Rattle.std.proofs.lemmas.Bool.{and_parts, eqb-true, eqb-false, cases_Bool}

abbrev pub all_below : (ℕ → Bool) → ℕ → Bool
all_below p zero = true
all_below p (suc n) = p n && all_below p n

pub from_table : (p : ℕ → Bool) (n k : ℕ) → all_below p n ≡ true → k < n → p k ≡ true
from_table p zero k e h = absurd (omega arith)
from_table p (suc n) k e h =
    let q = and_parts (p n) (all_below p n) e in
    go (cases_Bool (eqb k n)) q.0 (λ b. from_table p n k q.1 b)
  where
    go : (eqb k n ≡ true) ⊎ (eqb k n ≡ false) → p n ≡ true → (k < n → p k ≡ true) → p k ≡ true
    go (inl a) q r = rw (eqb-true k n a) q
    go (inr b) q r = r (let c = eqb-false k n b in omega arith)

-- two lists of numbers compared
unfoldable pub same : List ℕ → List ℕ → Bool
same [] [] = true
same [] (y ∷ ys) = false
same (x ∷ xs) [] = false
same (x ∷ xs) (y ∷ ys) = eqb x y && same xs ys

pub same_sound : (xs ys : List ℕ) → same xs ys ≡ true → xs ≡ ys
unfolding same
same_sound [] [] e = refl
same_sound [] (y ∷ ys) e = cc
same_sound (x ∷ xs) [] e = cc
same_sound (x ∷ xs) (y ∷ ys) e =
    let q = and_parts (eqb x y) (same xs ys) e in
    let a = eqb-true x y q.0 in
    let b = same_sound xs ys q.1 in cc
