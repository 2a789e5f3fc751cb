-- Areas of a memory whose numbers are small: what was lent and written there has been put, and what is put back as it stood changes nothing.
use Rattle.std.proofs.Common.{◌≡◌, ℕ, suc, ◌+◌, ◌^◌, ◌≤◌, Bool, true, ltb, List, [], ◌∷◌, ◌++◌, length, get_or, take, drop, sym, refl, ap, ◌∙◌, arith, w64, Fits}
use borrow.Rule.Slice.PartMut.{put_mid}
use Rattle.std.proofs.lemmas.List.{take-append-drop, length-take-le, length-drop}
use Rattle.std.proofs.lemmas.Bool.{and_from, lt-ltb}
use Rattle.meaning.specs.Words.{every}
use Rattle.engine.specs.Areas.{part, over, put}
use Rattle.engine.proofs.Areas.{part_over, part_over_above, put_over, every_take, every_drop}

abbrev pub small : List ℕ → Bool
small xs = every (λ x. ltb x (2 ^ 64)) xs

pub small_from_fits : (xs : List ℕ) → ((i : ℕ) → Fits w64 (get_or xs i 0)) → small xs ≡ true
small_from_fits [] f = refl
small_from_fits (x ∷ xs) f = and_from (ltb x (2 ^ 64)) (small xs) (lt-ltb x (2 ^ 64) (f 0).fits) (small_from_fits xs (λ i. f (suc i)))

pub small_part : (m : List ℕ) (a n : ℕ) → small m ≡ true → small (part m a n) ≡ true
small_part m a n e = every_take (λ x. ltb x (2 ^ 64)) n (drop a m) (every_drop (λ x. ltb x (2 ^ 64)) a m e)

pub length_part : (m : List ℕ) (a n : ℕ) → a + n ≤ length m → length (part m a n) ≡ n
length_part m a n h = length-take-le n (drop a m) (let l = length-drop a m in omega arith)

-- a part that was lent and written
pub lent_over : (m : List ℕ) (a n : ℕ) (xs : List ℕ) → length xs ≡ n → put_mid a n m xs ≡ over m a xs
lent_over m a n xs l = ap (λ (k : ℕ). take a m ++ (xs ++ drop k (drop a m))) (sym l)

pub lent_put : (m : List ℕ) (a n : ℕ) (xs : List ℕ) → a + n ≤ length m → length xs ≡ n → small xs ≡ true → put_mid a n m xs ≡ put m a xs
lent_put m a n xs h l s = lent_over m a n xs l ∙ sym (put_over m a xs (omega arith) s)

pub part_lent : (m : List ℕ) (a n : ℕ) (xs : List ℕ) → a ≤ length m → length xs ≡ n → part (put_mid a n m xs) a n ≡ xs
part_lent m a n xs h l = ap (λ (y : List ℕ). part y a n) (lent_over m a n xs l) ∙ (ap (part (over m a xs) a) (sym l) ∙ part_over m a xs h)

pub part_lent_above : (m : List ℕ) (a n : ℕ) (xs : List ℕ) (b k : ℕ) → a ≤ length m → length xs ≡ n → a + n ≤ b → part (put_mid a n m xs) b k ≡ part m b k
part_lent_above m a n xs b k h l g = ap (λ (y : List ℕ). part y b k) (lent_over m a n xs l) ∙ part_over_above m a xs b k h (omega arith)

-- a part put back
pub over_part : (m : List ℕ) (a n : ℕ) → a + n ≤ length m → over m a (part m a n) ≡ m
over_part m a n h =
    sym (lent_over m a n (part m a n) (length_part m a n h)) ∙ (ap (λ (y : List ℕ). take a m ++ y) (take-append-drop n (drop a m)) ∙ take-append-drop a m)

pub put_part : (m : List ℕ) (a n : ℕ) → a + n ≤ length m → small (part m a n) ≡ true → put m a (part m a n) ≡ m
put_part m a n h s = put_over m a (part m a n) (let l = length_part m a n h in omega arith) s ∙ over_part m a n h
