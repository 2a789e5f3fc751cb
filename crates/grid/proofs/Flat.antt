-- What moves within a flat list leave.
use Rattle.std.proofs.Common.{◌≡◌, ℕ, ◌+◌, ◌-◌, ◌≤◌, min, List, [], ◌++◌, length, take, drop, replicate, sym, ap, ◌∙◌, inl, inr, arith}
use borrow.Rule.Slice.PartMut.{put_mid}
use lib.Seq.{paste}
use Rattle.std.proofs.lemmas.List.{drop_all, length-drop, length-take, length-append, append-nil, drop-drop, take_at, drop_at, take_all}
use Rattle.std.proofs.lemmas.Bool.{cases_lt}

pub drop_min : {A : Type 0} (n : ℕ) (s : List A) → drop (min n (length s)) s ≡ drop n s
drop_min n s = elim (cases_lt n (length s)) [
  | inl h ↦ let e : min n (length s) ≡ n = omega arith in rw e
  | inr h ↦ let e : min n (length s) ≡ length s = omega arith in rw e (drop_all (length s) s (omega arith) ∙ sym (drop_all n s h))
]

pub shifted_out : (s r f : List ℕ) (n k v : ℕ) → k ≡ min n (length s) → r ≡ paste s 0 (drop k s) (length s - k)
    → f ≡ replicate (length (take (length s - (length s - k)) (drop (length s - k) r))) v
    → put_mid (length s - k) (length s - (length s - k)) r f ≡ drop n s ++ replicate (min n (length s)) v
shifted_out s r f n k v ek er ef =
    let kl : k ≤ length s = omega arith in
    let ld : length (drop k s) ≡ length s - k = length-drop k s in
    let er' : r ≡ drop k s ++ drop (0 + (length s - k)) s = er ∙ ap (λ t. t ++ drop (0 + (length s - k)) s) (take_all (length s - k) (drop k s) (omega arith)) in
    let lr : length r ≡ length s = rw er' (simp (length-append, length-drop) (omega arith)) in
    let a : take (length s - k) r ≡ drop n s = rw er' (take_at (drop k s) _ (length s - k) ld ∙ rw ek (drop_min n s)) in
    let b : drop (length s - (length s - k)) (drop (length s - k) r) ≡ [] = rw drop-drop (drop_all _ r (omega arith)) in
    let m : length (take (length s - (length s - k)) (drop (length s - k) r)) ≡ min n (length s) = simp (length-take, length-drop) (omega arith) in
    rw (a, b, append-nil, ef, m)

pub shifted_in : (s r f : List ℕ) (n k v : ℕ) → k ≡ min n (length s) → r ≡ paste s k (drop 0 s) (length s - k - 0)
    → f ≡ replicate (length (take (k - 0) (drop 0 r))) v
    → f ++ drop (k - 0) (drop 0 r) ≡ replicate (min n (length s)) v ++ take (length s - n) s
shifted_in s r f n k v ek er ef =
    let kl : k ≤ length s = omega arith in
    let z : k - 0 ≡ k = omega arith in
    let y : length s - k - 0 ≡ length s - n = omega arith in
    let er' : r ≡ take k s ++ take (length s - n) s =
    er ∙ rw (y, drop_all (k + (length s - n)) s (omega arith), append-nil) in
    let lk : length (take k s) ≡ k = simp length-take (omega arith) in
    let b : drop k r ≡ take (length s - n) s = rw er' (drop_at (take k s) _ k lk) in
    let m : length (take k r) ≡ min n (length s) = rw er' (rw (take_at (take k s) (take (length s - n) s) k lk) (lk ∙ ek)) in
    rw (ef, z, b, m)
