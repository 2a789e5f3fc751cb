-- Escaped text: what is printed is read back, and a canonical text that was read is printed again.
use Rattle.std.proofs.Common.{◌≡◌, ℕ, suc, ◌+◌, ◌*◌, ◌/◌, ◌%◌, ◌<◌, ◌≤◌, true, false, not, ◌&&◌, ◌||◌, eqb, ltb, ◌⊎◌, List, [], ◌∷◌, ◌++◌, length, get_or, drop, Some, None, Option, sym, refl, ap, ◌∙◌, subst, inl, inr, ⊎_elim, append_assoc, append-nil, arith, w8, Fits}
use Rattle.std.proofs.lemmas.List.{at_drop_more, at_drop_all}
use Rattle.std.proofs.lemmas.Bool.{cond_both, and_from, lt-ltb, cond-true, cond-false, and_parts, ltb-true, eqb-true, not-true, cases_Bool, both_ways, false≢true}
use Rattle.std.proofs.lemmas.Bool.Decides.{nat_tests}
use Rattle.days.specs.declared.mode.Mode.{Mode}
use Rattle.days.specs.declared.mode.Mode.TheVariants.{Plain, Slash, Hex, Digit, Bad}
use Rattle.days.specs.Text.{digit_of_hex, escaped_byte, escaped, is_printable, is_lower_hex, value_of_hex, mode_after, bytes_at, Reading, read_byte, read_all, start, is_plain, whole_text, canonical_after, canonical_from, all_bytes, ReadBack, PrintedAgain, DigitFits}

same_reading : {m n : Mode} {xs ys : List ℕ} → m ≡ n → xs ≡ ys → ◌≡◌ {A = Reading} (record { mode = m; bytes = xs }) (record { mode = n; bytes = ys })
same_reading p q = λ i. record { mode = p i; bytes = q i }

read_all_append : (r : Reading) (xs ys : List ℕ) → read_all r (xs ++ ys) ≡ read_all (read_all r xs) ys
unfolding read_all
read_all_append r [] ys = refl
read_all_append r (x ∷ xs) ys = read_all_append (read_byte r x) xs ys

hex_digit_first : (d : ℕ) → d < 16 → mode_after Hex (digit_of_hex d) ≡ Digit d
hex_digit_first d h = grind (arith, nat_tests)

hex_digit_second : (v d : ℕ) → d < 16 → mode_after (Digit v) (digit_of_hex d) ≡ Plain
hex_digit_second v d h = grind (arith, nat_tests)

hex_digit_read : (v d : ℕ) → d < 16 → bytes_at (Digit v) (digit_of_hex d) ≡ (16 * v + d) ∷ []
hex_digit_read v d h = grind (arith, nat_tests)

read_quoted : (bs : List ℕ) (b : ℕ) → (eqb b 34 || eqb b 92) ≡ true → read_all (record { mode = Plain; bytes = bs }) (92 ∷ b ∷ []) ≡ record { mode = Plain; bytes = bs ++ b ∷ [] }
unfolding read_all
read_quoted bs b h =
    let p : mode_after Slash b ≡ Plain = grind (arith, nat_tests) in
    let q : bytes_at Slash b ≡ b ∷ [] = grind (arith, nat_tests) in
    same_reading p (rw (append-nil, q))

read_plain : (bs : List ℕ) (b : ℕ) → (eqb b 34 || eqb b 92) ≡ false → is_printable b ≡ true → read_all (record { mode = Plain; bytes = bs }) (b ∷ []) ≡ record { mode = Plain; bytes = bs ++ b ∷ [] }
unfolding read_all
read_plain bs b h k =
    let p : mode_after Plain b ≡ Plain = grind (arith, nat_tests) in
    let q : bytes_at Plain b ≡ b ∷ [] = grind (arith, nat_tests) in
    same_reading p (rw q)

read_hex : (bs : List ℕ) (b : ℕ) → b < 256 → read_all (record { mode = Plain; bytes = bs }) (92 ∷ 120 ∷ digit_of_hex (b / 16) ∷ digit_of_hex (b % 16) ∷ []) ≡ record { mode = Plain; bytes = bs ++ b ∷ [] }
unfolding read_all
read_hex bs b h =
    let p = hex_digit_first (b / 16) (omega arith) in
    let q : 16 * (b / 16) + b % 16 ≡ b = omega arith in
    same_reading
    (ap (λ m. mode_after m (digit_of_hex (b % 16))) p ∙ hex_digit_second (b / 16) (b % 16) (omega arith))
    (ap (λ xs. xs ++ bytes_at (mode_after Hex (digit_of_hex (b / 16))) (digit_of_hex (b % 16))) (append-nil _ ∙ append-nil _ ∙ append-nil bs)
    ∙ ap (λ xs. bs ++ xs) (ap (λ m. bytes_at m (digit_of_hex (b % 16))) p ∙ hex_digit_read (b / 16) (b % 16) (omega arith) ∙ ap (λ n. n ∷ []) q))

read_escaped_byte : (bs : List ℕ) (b : ℕ) → b < 256 → read_all (record { mode = Plain; bytes = bs }) (escaped_byte b) ≡ record { mode = Plain; bytes = bs ++ b ∷ [] }
read_escaped_byte bs b h =
    let P : List ℕ → Type 0 = λ xs. read_all (record { mode = Plain; bytes = bs }) xs ≡ record { mode = Plain; bytes = bs ++ b ∷ [] } in
    cond_both (eqb b 34 || eqb b 92) _ _ P (read_quoted bs b)
    (λ e. cond_both (is_printable b) _ _ P (read_plain bs b e) (λ _. read_hex bs b h))

read_escaped : (us bs : List ℕ) → all_bytes bs ≡ true → read_all (record { mode = Plain; bytes = us }) (escaped bs) ≡ record { mode = Plain; bytes = us ++ bs }
unfolding escaped read_all
read_escaped us [] h = same_reading refl (sym (append-nil us))
read_escaped us (b ∷ bs) h =
    let both = and_parts (ltb b 256) (all_bytes bs) h in
    read_all_append _ (escaped_byte b) (escaped bs)
    ∙ ap (λ r. read_all r (escaped bs)) (read_escaped_byte us b (ltb-true b 256 both.0))
    ∙ read_escaped (us ++ b ∷ []) bs both.1
    ∙ same_reading refl (append_assoc us (b ∷ []) bs)

pub read_back : (bs : List ℕ) → ReadBack bs
read_back bs h = ap whole_text (read_escaped [] bs h)

-- one step of the loop that reads, and its end
pub read_more : (r : Reading) (cs : List ℕ) (i : ℕ) (m : Mode) (bs ds : List ℕ) → i < length cs → m ≡ mode_after r.mode (get_or cs i 0) → ds ≡ bytes_at r.mode (get_or cs i 0) → bs ≡ r.bytes ++ ds → read_all (record { mode = m; bytes = bs }) (drop (i + 1) cs) ≡ read_all r (drop i cs)
unfolding read_all
read_more r cs i m bs ds h p d q =
    ap (λ s. read_all s (drop (i + 1) cs)) (same_reading p (q ∙ ap (λ xs. r.bytes ++ xs) d)) ∙ sym (at_drop_more (read_all r) cs i 0 h)

pub read_done : (r : Reading) (cs : List ℕ) (i : ℕ) → length cs ≤ i → read_all r (drop i cs) ≡ r
unfolding read_all
read_done r cs i h = at_drop_all (read_all r) cs i h

escaped_append : (xs ys : List ℕ) → escaped (xs ++ ys) ≡ escaped xs ++ escaped ys
unfolding escaped
escaped_append [] ys = refl
escaped_append (x ∷ xs) ys = ap (λ zs. escaped_byte x ++ zs) (escaped_append xs ys) ∙ sym (append_assoc (escaped_byte x) (escaped xs) (escaped ys))

-- what has come of an escape that is not at its end
abbrev pending : Mode → List ℕ
pending Plain = []
pending Slash = 92 ∷ []
pending Hex = 92 ∷ 120 ∷ []
pending (Digit v) = 92 ∷ 120 ∷ digit_of_hex v ∷ []
pending Bad = []

-- a byte with which a canonical text goes on: it leads to the mode n
record Goes_on (m : Mode) (c : ℕ) (n : Mode) : Type 0 where
  read : mode_after m c ≡ n
  checked : canonical_after m c ≡ n
  shown : escaped (bytes_at m c) ++ pending n ≡ pending m ++ c ∷ []
  fits : DigitFits n

abbrev Goes : Mode → ℕ → Type 0
Goes m c = (canonical_after m c ≡ Bad) ⊎ ((n : Mode) × Goes_on m c n)

plain_goes : (c : ℕ) → Goes Plain c
unfolding escaped
plain_goes c =
    ⊎_elim
    (λ e. inr (Slash, subst (λ k. Goes_on Plain k Slash) (sym (eqb-true c 92 e)) (record { read = refl; checked = refl; shown = refl; fits = tt })))
    (λ e. ⊎_elim
    (λ f. inr (
      Plain,
      let p : mode_after Plain c ≡ Plain = grind (arith, nat_tests) in
          let b : bytes_at Plain c ≡ c ∷ [] = grind (arith, nat_tests) in
          let q : escaped_byte c ≡ c ∷ [] = grind (arith, nat_tests) in
          record { read = p; checked = p; shown = rw (b, q); fits = tt },
    ))
    (λ f. inl (grind (arith, nat_tests)))
    (cases_Bool (is_printable c && not (eqb c 34))))
    (cases_Bool (eqb c 92))

slash_goes : (c : ℕ) → Goes Slash c
unfolding escaped
slash_goes c =
    ⊎_elim
    (λ e. inr (Plain, subst (λ k. Goes_on Slash k Plain) (sym (eqb-true c 34 e)) (record { read = refl; checked = refl; shown = refl; fits = tt })))
    (λ e. ⊎_elim
    (λ f. inr (Plain, subst (λ k. Goes_on Slash k Plain) (sym (eqb-true c 92 f)) (record { read = refl; checked = refl; shown = refl; fits = tt })))
    (λ f. ⊎_elim
    (λ g. inr (Hex, subst (λ k. Goes_on Slash k Hex) (sym (eqb-true c 120 g)) (record { read = refl; checked = refl; shown = refl; fits = tt })))
    (λ g. inl (grind (arith, nat_tests)))
    (cases_Bool (eqb c 120)))
    (cases_Bool (eqb c 92)))
    (cases_Bool (eqb c 34))

lower_hex_back : (c : ℕ) → is_lower_hex c ≡ true → digit_of_hex (value_of_hex c) ≡ c
lower_hex_back c h = grind (arith, nat_tests)

lower_hex_small : (c : ℕ) → is_lower_hex c ≡ true → value_of_hex c < 16
lower_hex_small c h = grind (arith, nat_tests)

hex_goes : (c : ℕ) → Goes Hex c
unfolding escaped
hex_goes c =
    ⊎_elim
    (λ e. inr (Digit (value_of_hex c), record { read = grind (arith, nat_tests); checked = grind (arith, nat_tests); shown = ap (λ d. 92 ∷ 120 ∷ d ∷ []) (lower_hex_back c e); fits = lower_hex_small c e }))
    (λ e. inl (grind (arith, nat_tests)))
    (cases_Bool (is_lower_hex c))

-- the byte of two digits
hex_byte : (v d : ℕ) → v < 16 → d < 16 → is_printable (16 * v + d) ≡ false → escaped_byte (16 * v + d) ≡ 92 ∷ 120 ∷ digit_of_hex v ∷ digit_of_hex d ∷ []
hex_byte v d h k e =
    let p : (16 * v + d) / 16 ≡ v = omega arith in
    let q : (16 * v + d) % 16 ≡ d = omega arith in
    let r : escaped_byte (16 * v + d) ≡ 92 ∷ 120 ∷ digit_of_hex ((16 * v + d) / 16) ∷ digit_of_hex ((16 * v + d) % 16) ∷ [] = grind (arith, nat_tests) in
    r ∙ (λ i. 92 ∷ 120 ∷ digit_of_hex (p i) ∷ digit_of_hex (q i) ∷ [])

digit_goes : (v c : ℕ) → v < 16 → Goes (Digit v) c
unfolding escaped
digit_goes v c h =
    ⊎_elim
    (λ e. let both = and_parts _ _ e in
    inr (
      Plain,
      record {
        read = grind (arith, nat_tests);
        checked = cond-true _ _ _ e;
        shown = let b : bytes_at (Digit v) c ≡ (16 * v + value_of_hex c) ∷ [] = grind (arith, nat_tests) in
            rw b (append-nil _ ∙ append-nil _ ∙ hex_byte v (value_of_hex c) h (lower_hex_small c both.0) (not-true _ both.1) ∙ ap (λ d. 92 ∷ 120 ∷ digit_of_hex v ∷ d ∷ []) (lower_hex_back c both.0));
        fits = tt;
      },
    ))
    (λ e. inl (cond-false _ _ _ e))
    (cases_Bool (is_lower_hex c && not (is_printable (16 * v + value_of_hex c))))

goes : (m : Mode) (c : ℕ) → DigitFits m → Goes m c
goes Plain c h = plain_goes c
goes Slash c h = slash_goes c
goes Hex c h = hex_goes c
goes (Digit v) c h = digit_goes v c h
goes Bad c h = inl refl

bad_stays : (cs : List ℕ) → canonical_from Bad cs ≡ false
unfolding canonical_from
bad_stays [] = refl
bad_stays (c ∷ cs) = bad_stays cs

printed_on : (cs bs : List ℕ) (m : Mode) → DigitFits m → canonical_from m cs ≡ true → escaped (read_all (record { mode = m; bytes = bs }) cs).bytes ≡ escaped bs ++ (pending m ++ cs)
unfolding canonical_from read_all
printed_on [] bs Plain f h = sym (append-nil (escaped bs))
printed_on [] bs Slash f h = absurd (false≢true h)
printed_on [] bs Hex f h = absurd (false≢true h)
printed_on [] bs (Digit v) f h = absurd (false≢true h)
printed_on [] bs Bad f h = absurd (false≢true h)
printed_on (c ∷ cs) bs m f h =
    ⊎_elim (λ e. absurd (both_ways _ (bad_stays cs) (subst (λ n. canonical_from n cs ≡ true) e h)))
    (λ g. let n = g.0 in let on = g.1 in
    ap (λ k. escaped (read_all (record { mode = k; bytes = bs ++ bytes_at m c }) cs).bytes) on.read
    ∙ printed_on cs (bs ++ bytes_at m c) n on.fits (subst (λ k. canonical_from k cs ≡ true) on.checked h)
    ∙ rw (escaped_append bs (bytes_at m c)) (append_assoc (escaped bs) (escaped (bytes_at m c)) (pending n ++ cs)
    ∙ ap (λ xs. escaped bs ++ xs) (sym (append_assoc (escaped (bytes_at m c)) (pending n) cs) ∙ ap (λ xs. xs ++ cs) on.shown ∙ append_assoc (pending m) (c ∷ []) cs)))
    (goes m c f)

read_bytes : (r : Reading) (bs : List ℕ) → whole_text r ≡ Some bs → r.bytes ≡ bs
read_bytes r bs h =
    ⊎_elim (λ e. let p : Some r.bytes ≡ Some bs = sym (cond-true _ _ _ e) ∙ h in cc)
    (λ e. let p : ◌≡◌ {A = Option (List ℕ)} None (Some bs) = sym (cond-false _ _ _ e) ∙ h in cc)
    (cases_Bool (is_plain r.mode))

pub printed_again : (cs bs : List ℕ) → PrintedAgain cs bs
unfolding escaped
printed_again cs bs h e = ap escaped (sym (read_bytes (read_all start cs) bs e)) ∙ printed_on cs [] Plain tt h

-- what a slice of bytes holds are bytes
pub bytes_from_fits : (bs : List ℕ) → ((i : ℕ) → Fits w8 (get_or bs i 0)) → all_bytes bs ≡ true
bytes_from_fits [] f = refl
bytes_from_fits (b ∷ bs) f = and_from (ltb b 256) (all_bytes bs) (lt-ltb b 256 (f 0).fits) (bytes_from_fits bs (λ i. f (suc i)))

-- one step of the loop that prints, and its end
pub print_more : (out more base bs : List ℕ) (i : ℕ) → i < length bs → more ≡ out ++ escaped_byte (get_or bs i 0) → out ++ escaped (drop i bs) ≡ base → more ++ escaped (drop (i + 1) bs) ≡ base
unfolding escaped
print_more out more base bs i h e p =
    ap (λ xs. xs ++ escaped (drop (i + 1) bs)) e
    ∙ append_assoc out (escaped_byte (get_or bs i 0)) (escaped (drop (i + 1) bs))
    ∙ ap (λ xs. out ++ xs) (sym (at_drop_more escaped bs i 0 h))
    ∙ p

pub print_done : (out base bs : List ℕ) (i : ℕ) → length bs ≤ i → out ++ escaped (drop i bs) ≡ base → out ≡ base
unfolding escaped
print_done out base bs i h p = sym (append-nil out) ∙ ap (λ xs. out ++ xs) (sym (at_drop_all escaped bs i h)) ∙ p

pub not_at_end : (m : Mode) → (m ≡ Plain → ⊥) → is_plain m ≡ false
not_at_end Plain h = absurd (h refl)
not_at_end Slash h = refl
not_at_end Hex h = refl
not_at_end (Digit v) h = refl
not_at_end Bad h = refl
