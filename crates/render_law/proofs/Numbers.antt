-- A parameter in decimal, read digit by digit.
use Rattle.std.proofs.Common.{◌≡◌, ℕ, ◌-◌, ◌<◌, ◌≤◌, Bool, true, false, ◌&&◌, eqb, ltb, leb, List, [], ◌∷◌, length, refl, ap, ◌∙◌, arith}
use Rattle.std.proofs.lemmas.Bool.{cond-true, cond-false, le-ltb, le-leb, lt-leb, ne_eqb, and_parts, leb-true}
use Rattle.meaning.specs.Words.{every}
use Rattle.meaning.specs.Screen.{Term, sequence}
use Rattle.meaning.specs.Bytes.{byte, byte_read, written, in_digits, digits, add_digit}
use Rattle.render_law.proofs.Views.{View, term_at}
use Rattle.render_law.proofs.Tables.{all_below, from_table, same, same_sound}

pub byte_high : (t : Term) (c : ℕ) → 32 ≤ c → c < 127 → byte t c ≡ byte_read t t.reading c
unfolding byte
byte_high t c h k = cond-false (ltb c 32) _ _ (le-ltb c 32 h) ∙ cond-false (eqb c 127) _ _ (ne_eqb c 127 (λ e. omega arith))

digit_byte : (v : View) (ps now : List ℕ) (d : ℕ) → 48 ≤ d → d ≤ 57
    → byte (term_at v (sequence false ps now)) d ≡ term_at v (sequence false ps (add_digit now (d - 48)))
digit_byte v ps now d h k =
    byte_high (term_at v (sequence false ps now)) d (omega arith) (omega arith)
    ∙ (cond-false (leb 128 d) _ _ (lt-leb 128 d (omega arith)) ∙ cond-true (leb 48 d && leb d 57) _ _ (rw (le-leb 48 d h) (le-leb d 57 k)))

abbrev is_digit : ℕ → Bool
is_digit d = leb 48 d && leb d 57

abbrev read_digits : List ℕ → List ℕ → List ℕ
read_digits now [] = now
read_digits now (d ∷ ds) = read_digits (add_digit now (d - 48)) ds

digits_bytes : (v : View) (ps now ds : List ℕ) → every is_digit ds ≡ true
    → written (term_at v (sequence false ps now)) ds ≡ term_at v (sequence false ps (read_digits now ds))
unfolding written
digits_bytes v ps now [] e = refl
digits_bytes v ps now (d ∷ ds) e =
    let p = and_parts (is_digit d) (every is_digit ds) e in
    let q = and_parts (leb 48 d) (leb d 57) p.0 in
    ap (λ (u : Term). written u ds) (digit_byte v ps now d (leb-true 48 d q.0) (leb-true d 57 q.1))
    ∙ digits_bytes v ps (add_digit now (d - 48)) ds p.1

-- all numbers below 256 are read back, and their digits are few and bytes
number_ok : ℕ → Bool
number_ok n = every is_digit (in_digits n) && (same (read_digits [] (in_digits n)) (n ∷ []) && (leb (length (in_digits n)) 3 && every (λ b. ltb b 256) (in_digits n)))

table : all_below number_ok 256 ≡ true
unfolding number_ok same digits
table = refl

pub written_number : (v : View) (ps : List ℕ) (n : ℕ) → n < 256 → written (term_at v (sequence false ps [])) (in_digits n) ≡ term_at v (sequence false ps (n ∷ []))
unfolding number_ok
written_number v ps n h =
    let q = and_parts (every is_digit (in_digits n)) _ (from_table number_ok 256 n table h) in
    let s = and_parts (same (read_digits [] (in_digits n)) (n ∷ [])) _ q.1 in
    digits_bytes v ps [] (in_digits n) q.0
    ∙ ap (λ (ns : List ℕ). term_at v (sequence false ps ns)) (same_sound _ _ s.0)

pub small_number : (n : ℕ) → n < 256 → (length (in_digits n) ≤ 3) × (every (λ b. ltb b 256) (in_digits n) ≡ true)
unfolding number_ok
small_number n h =
    let q = and_parts (every is_digit (in_digits n)) _ (from_table number_ok 256 n table h) in
    let s = and_parts (same (read_digits [] (in_digits n)) (n ∷ [])) _ q.1 in
    let l = and_parts (leb (length (in_digits n)) 3) _ s.1 in
    (leb-true _ 3 l.0, l.1)
