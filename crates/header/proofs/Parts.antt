-- Three parts of a lent header, written one after the other.
use Rattle.std.proofs.Common.{◌≡◌, ℕ, ◌+◌, List, [], ◌++◌, length, take, drop, ap, ◌∙◌, arith}
use borrow.Rule.Slice.PartMut.{put_mid}
use Rattle.std.proofs.lemmas.List.{length-drop, length-append, drop_all, append-nil, append_assoc, take_at}
use Rattle.std.proofs.lemmas.Slice.{take-put_mid, drop-put_mid}

pub three_parts :
    (p q r : ℕ) (m a b d : List ℕ) → length m ≡ (p + q) + r → length a ≡ p → length b ≡ q →
    put_mid (p + q) r (put_mid p q (a ++ drop p m) b) d ≡ a ++ (b ++ d)
three_parts p q r m a b d l la lb =
    let x = a ++ drop p m in
    let y = put_mid p q x b in
    let n : length x ≡ length m = simp (length-append, length-drop) (omega arith) in
    let two = take-put_mid p q x b (p + q) (omega arith) (omega arith) in
    let one = take_at a (drop p m) p la in
    let left = drop-put_mid p q x b (p + q) (omega arith) (omega arith) lb in
    let none : drop r (drop (p + q) y) ≡ [] = drop_all r _ (let e = ap length left ∙ length-drop (p + q) x in omega arith) in
    let all : take (p + q) y ++ (d ++ drop r (drop (p + q) y)) ≡ (a ++ b) ++ (d ++ []) = cc in
    all ∙ (ap (λ (z : List ℕ). (a ++ b) ++ z) (append-nil d) ∙ append_assoc a b d)

pub same_parts : (a b d a₁ b₁ d₁ : List ℕ) → a ≡ a₁ → b ≡ b₁ → d ≡ d₁ → a ++ (b ++ d) ≡ a₁ ++ (b₁ ++ d₁)
same_parts a b d a₁ b₁ d₁ p q r = cc
