-- Numbers of one, two and three digits, written in decimal.
use Rattle.std.proofs.Common.{◌≡◌, ℕ, ◌+◌, ◌/◌, ◌%◌, ◌<◌, ◌≤◌, [], ◌∷◌, arith}
use Rattle.std.proofs.lemmas.Bool.{lt-ltb, le-ltb}
use Rattle.meaning.specs.Bytes.{in_digits, digits}

pub one_digit : (k : ℕ) → k < 10 → in_digits k ≡ (48 + k) ∷ []
unfolding digits
one_digit k h = rw (lt-ltb k 10 h)

pub two_digits : (k : ℕ) → 10 ≤ k → k < 100 → in_digits k ≡ (48 + k / 10) ∷ (48 + k % 10) ∷ []
unfolding digits
two_digits k h l = rw (le-ltb k 10 h, lt-ltb (k / 10) 10 (omega arith))

pub three_digits : (k : ℕ) → 100 ≤ k → k < 1000 → in_digits k ≡ (48 + k / 100) ∷ (48 + k / 10 % 10) ∷ (48 + k % 10) ∷ []
unfolding digits
three_digits k h l =
    let e : k / 10 / 10 ≡ k / 100 = omega arith in
    rw (le-ltb k 10 (omega arith), le-ltb (k / 10) 10 (omega arith), lt-ltb (k / 10 / 10) 10 (omega arith), e)
