-- Which part of the decision over bytes a byte comes to.
use Rattle.std.proofs.Common.{◌≡◌, ℕ, ◌-◌, ◌<◌, ◌≤◌, Bool, true, false, not, ◌&&◌, eqb, ltb, leb, ◌⊎◌, List, [], ◌∷◌, ◌++◌, take, refl, inl, inr, arith}
use Rattle.std.proofs.lemmas.Bool.{ne_eqb, lt-leb, le-leb, lt-ltb, le-ltb}
use Rattle.meaning.specs.Words.{pick, none_of}
use Rattle.meaning.specs.Screen.{Term, Reading, with_reading, sequence, passed, escape}
use Rattle.meaning.specs.Bytes.{low_byte, is_string, control, back_to_ground, byte_of_sequence, done_sequence, all_numbers, byte, byte_read, add_digit, ended}
use Rattle.terminal.specs.Parsing.{parameter_read, string_read}

with_pick : (t : Term) (b : Bool) (x y : Reading) → pick b (with_reading t x) (with_reading t y) ≡ with_reading t (pick b x y)
with_pick t true x y = refl
with_pick t false x y = refl

-- below 32
pub low_string : (t : Term) (c : ℕ) → is_string t.reading ≡ true → low_byte t c ≡ with_reading t (string_read c)
unfolding low_byte
low_string t c s = rw s (rw (with_pick t (eqb c 7) _ _) (with_pick t (eqb c 27) _ _))

pub low_control : (t : Term) (c : ℕ) → is_string t.reading ≡ false → (c ≡ 27 → ⊥) → (c ≡ 24 → ⊥) → (c ≡ 26 → ⊥) → low_byte t c ≡ control t c
unfolding low_byte
low_control t c s e f g = rw (ne_eqb c 27 e, ne_eqb c 24 f, ne_eqb c 26 g, s)

pub low_escape : (t : Term) (c : ℕ) → is_string t.reading ≡ false → c ≡ 27 → low_byte t c ≡ with_reading t escape
unfolding low_byte
low_escape t c s e = rw (e, s)

pub low_cancel : (t : Term) (c : ℕ) → is_string t.reading ≡ false → (c ≡ 24) ⊎ (c ≡ 26) → low_byte t c ≡ back_to_ground t
unfolding low_byte
low_cancel t c s (inl e) = rw (e, s)
low_cancel t c s (inr e) = rw (e, s)

-- in a control sequence
pub sequence_low : (t : Term) (p : Bool) (ps now : List ℕ) (c : ℕ) → c < 64 → byte_of_sequence t p ps now c ≡ with_reading t (parameter_read p ps now c)
sequence_low t p ps now c h = rw (lt-leb 64 c h)
    (chosen t (leb 48 c && leb c 57) (eqb c 59) (eqb c 63) (none_of ps && (none_of now && not p)) (sequence p ps (add_digit now (c - 48))) (sequence p (take 16 (ps ++ ended now ∷ [])) []) (sequence true [] []) passed)
  where
    chosen : (t : Term) (a b d e : Bool) (x y z w : Reading)
        → pick a (with_reading t x) (pick b (with_reading t y) (pick d (pick e (with_reading t z) (with_reading t w)) (with_reading t w))) ≡ with_reading t (pick a x (pick b y (pick d (pick e z w) w)))
    chosen t true b d e x y z w = refl
    chosen t false true d e x y z w = refl
    chosen t false false true true x y z w = refl
    chosen t false false true false x y z w = refl
    chosen t false false false e x y z w = refl

pub sequence_done : (t : Term) (p : Bool) (ps now : List ℕ) (c : ℕ) → 64 ≤ c → byte_of_sequence t p ps now c ≡ done_sequence (back_to_ground t) p (all_numbers ps now) c
sequence_done t p ps now c h =
    let a : leb 48 c ≡ true = le-leb 48 c (omega arith) in
    let b : leb c 57 ≡ false = lt-leb c 57 (omega arith) in
    let d : eqb c 59 ≡ false = ne_eqb c 59 (λ e. omega arith) in
    let f : eqb c 63 ≡ false = ne_eqb c 63 (λ e. omega arith) in
    let g : leb 64 c ≡ true = le-leb 64 c h in simp (a, b, d, f, g)

-- all bytes
pub byte_low : (t : Term) (c : ℕ) → c < 32 → byte t c ≡ low_byte t c
unfolding byte
byte_low t c h = rw (lt-ltb c 32 h)

pub byte_delete : (t : Term) (c : ℕ) → c ≡ 127 → byte t c ≡ t
unfolding byte
byte_delete t c h = rw h

pub byte_high : (t : Term) (c : ℕ) → 32 ≤ c → (c ≡ 127 → ⊥) → byte t c ≡ byte_read t t.reading c
unfolding byte
byte_high t c h n =
    let a : ltb c 32 ≡ false = le-ltb c 32 h in
    let b : eqb c 127 ≡ false = ne_eqb c 127 n in simp (a, b)
