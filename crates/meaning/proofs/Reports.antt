-- How much a terminal reports to the program that writes: a report takes four bytes to ask for (ESC [ 6 n) and is at most nine bytes long.
use Rattle.std.proofs.Common.{◌≡◌, ℕ, zero, suc, ◌+◌, ◌-◌, ◌*◌, ◌<◌, ◌≤◌, Bool, true, false, not, ◌&&◌, eqb, ltb, leb, List, [], ◌∷◌, ◌++◌, length, get_or, refl, inl, inr, add-zero, arith, length-append}
use Rattle.std.specs.List.{AllByRecursion}
use Rattle.std.proofs.ByRecursion.{All-append}
use Rattle.std.proofs.lemmas.Bool.Decides.{Decides-ltb, Decides-below_and}
use Rattle.std.proofs.lemmas.Bool.{and_parts, leb-true, cases_eq}
use Rattle.meaning.specs.Words.{pick, or, every, none_of}
use Rattle.meaning.specs.Screen.{Term, Reading, ground_state, escape, sequence, passed, string, string_end, at, with_reading, with_modes, with_region, row_on, put_sign, printed, goes_to, wipe_row, wipe_all, in_region}
use Rattle.meaning.specs.Bytes.{digits, in_digits, place_told, modes, mode_one, answers, all_numbers, done_sequence, byte_of_sequence, byte_read, is_string, back_to_ground, low_byte, byte, written}
use Rattle.meaning.proofs.Controls.{Controls, pick_both, control_keeps, escape_keeps, sequence_keeps}
use Rattle.meaning.proofs.Edits.{decides_every}
use Rattle.meaning.proofs.Sound.{Sound, sound_byte}

-- how many bytes of a question have come
abbrev pub asked : Reading → ℕ
asked ground_state = 0
asked escape = 1
asked (sequence private [] []) = 2
asked (sequence private [] (n ∷ ns)) = 3
asked (sequence private (p ∷ ps) now) = 3
asked passed = 0
asked string = 0
asked string_end = 0

pub asked_most : (r : Reading) → asked r ≤ 3
asked_most ground_state = omega arith
asked_most escape = omega arith
asked_most (sequence private [] []) = omega arith
asked_most (sequence private [] (n ∷ ns)) = omega arith
asked_most (sequence private (p ∷ ps) now) = omega arith
asked_most passed = omega arith
asked_most string = omega arith
asked_most string_end = omega arith

asked_sequence : (private : Bool) (ps now : List ℕ) → 2 ≤ asked (sequence private ps now)
asked_sequence private [] [] = omega arith
asked_sequence private [] (n ∷ ns) = omega arith
asked_sequence private (p ∷ ps) now = omega arith

-- nothing is reported, and at most m bytes of a question have come
pub record QuietFields (a : List ℕ) (m : ℕ) (answer : List ℕ) (reading : Reading) : Type 0 where
  pub same : answer ≡ a
  pub most : asked reading ≤ m

abbrev pub Quiet : List ℕ → ℕ → Term → Type 0
Quiet a m t = QuietFields a m t.answer t.reading

module _ (a : List ℕ) (m : ℕ) where
  quiet_row_on : (t : Term) → Quiet a m t → Quiet a m (row_on t)
  quiet_row_on t q = pick_both (Quiet a m) (eqb t.row t.bottom) _ _ q q

  quiet_to : (t : Term) (r c : ℕ) → Quiet a m t → Quiet a m (goes_to t r c)
  unfolding goes_to
  quiet_to t r c q = pick_both (Quiet a m) t.origin _ _ q q

  quiet_erase_row : (t : Term) (k : ℕ) → Quiet a m t → Quiet a m (wipe_row t k)
  quiet_erase_row t k q = pick_both (Quiet a m) (eqb k 0) _ _ q (pick_both (Quiet a m) (eqb k 1) _ _ q (pick_both (Quiet a m) (eqb k 2) _ _ q q))

  quiet_erase_all : (t : Term) (k : ℕ) → Quiet a m t → Quiet a m (wipe_all t k)
  quiet_erase_all t k q =
      pick_both (Quiet a m) (eqb k 0) _ _ (quiet_erase_row t 0 q)
      (pick_both (Quiet a m) (eqb k 1) _ _ (quiet_erase_row t 1 q) (pick_both (Quiet a m) (eqb k 2) _ _ q q))

  quiet_modes : (v private : Bool) (t : Term) (ns : List ℕ) → Quiet a m t → Quiet a m (modes v private t ns)
  unfolding modes
  quiet_modes v private t [] q = q
  quiet_modes v private t (n ∷ ns) q =
      quiet_modes v private (mode_one v private t n) ns
      (pick_both (Quiet a m) private _ _
      (pick_both (Quiet a m) (eqb n 6) _ _ (quiet_to (with_modes t t.inserts t.wraps v t.shown) 0 0 q)
      (pick_both (Quiet a m) (eqb n 7) _ _ q (pick_both (Quiet a m) (eqb n 25) _ _ q q)))
      (pick_both (Quiet a m) (eqb n 4) _ _ q q))

  quiet_printed : (t : Term) (c : ℕ) → Quiet a m t → Quiet a m (printed t c)
  unfolding printed
  quiet_printed t c q =
      let u : Term = pick t.late (at (row_on t) (row_on t).row 0) t in
      let g : Quiet a m (put_sign u c) = pick_both (Quiet a m) u.inserts _ _ o o in
      pick_both (Quiet a m) (ltb (suc (put_sign u c).col) (put_sign u c).wide) _ _ g g
    where
      o : Quiet a m (pick t.late (at (row_on t) (row_on t).row 0) t)
      o = pick_both (Quiet a m) t.late _ _ (quiet_row_on t q) q

  quiet_controls : Controls (Quiet a m)
  quiet_controls = record {
    stay = λ t q. q;
    on = quiet_row_on;
    on_first = quiet_row_on;
    back = λ t q. pick_both (Quiet a m) (eqb t.row t.top) _ _ q q;
    left = λ t k q. q;
    column = λ t k q. q;
    first = λ t q. q;
    up = λ t k q. q;
    down = λ t k q. q;
    up_first = λ t k q. q;
    down_first = λ t k q. q;
    to = quiet_to;
    erase_row = quiet_erase_row;
    erase_all = quiet_erase_all;
    erase_some = λ t k q. q;
    insert = λ t k q. q;
    delete = λ t k q. q;
    insert_rows = λ t k q. pick_both (Quiet a m) (in_region t) _ _ q q;
    delete_rows = λ t k q. pick_both (Quiet a m) (in_region t) _ _ q q;
    scroll_up = λ t k q. q;
    scroll_down = λ t k q. q;
    set_region = λ t x y q. pick_both (Quiet a m) _ _ _ (quiet_to (with_region t _ _) 0 0 q) q;
    restyle = λ t ns q. q;
    set_modes = quiet_modes;
    saves = λ t q. q;
    restores = λ t q. q;
    resets = λ t q. record { same = q.same; most = omega arith };
  }

-- numbers in decimal, by computing each
abbrev all_below : (ℕ → Bool) → ℕ → Bool
all_below p zero = true
all_below p (suc n) = p n && all_below p n

short : ℕ → ℕ → Bool
short m n = leb (length (in_digits n)) m && every (λ x. ltb x 256) (in_digits n)

from_table : (p : ℕ → Bool) (n : ℕ) → all_below p n ≡ true → (k : ℕ) → k < n → p k ≡ true
from_table p n e = (Decides-below_and p (λ k. p k ≡ true) (all_below p) (λ k. (λ x. x, λ x. x)) refl (λ _. refl) n).0 e

two_digits : all_below (short 2) 61 ≡ true
unfolding short digits
two_digits = refl

three_digits : all_below (short 3) 201 ≡ true
unfolding short digits
three_digits = refl

abbrev pub Small : List ℕ → Type 0
Small bs = AllByRecursion (λ b. b < 256) bs

small_digits : (m n : ℕ) → short m n ≡ true → (length (in_digits n) ≤ m) × Small (in_digits n)
unfolding short
small_digits m n e =
    let p = and_parts (leb (length (in_digits n)) m) _ e in
    (leb-true _ _ p.0, (decides_every (λ x. ltb x 256) (λ x. x < 256) (λ x. Decides-ltb x 256) (in_digits n)).0 p.1)

pub place_told_short : (w h : ℕ) (t : Term) → w ≤ 200 → h ≤ 60 → Sound w h t → (length (place_told t) ≤ 9) × Small (place_told t)
place_told_short w h t p q s =
    let r : ℕ = suc (t.row - pick t.origin t.top 0) in
    let a = small_digits 2 r (from_table (short 2) 61 two_digits r (omega arith)) in
    let b = small_digits 3 (suc t.col) (from_table (short 3) 201 three_digits (suc t.col) (omega arith)) in
    let row : List ℕ = 27 ∷ 91 ∷ in_digits r in
    let col : List ℕ = 59 ∷ in_digits (suc t.col) in
    let both : Small (row ++ col) = All-append (λ x. x < 256) row col (omega arith, (omega arith, a.1)) (omega arith, b.1) in
    (simp length-append (omega arith), All-append (λ x. x < 256) (row ++ col) (82 ∷ []) both (omega arith, tt))

-- at most nine bytes a report since the answer was b bytes long, and each report is paid for by four of n bytes
pub record ReportedFields (b n : ℕ) (answer : List ℕ) (reading : Reading) : Type 0 where
  pub count : ℕ
  pub few : length answer ≤ b + 9 * count
  pub paid : 4 * count + asked reading ≤ n
  pub small : Small answer

abbrev pub Reported : ℕ → ℕ → Term → Type 0
Reported b n t = ReportedFields b n t.answer t.reading

module _ (b n : ℕ) where
  reported_quiet : (a : List ℕ) (r : Reading) (u : Term) → ReportedFields b n a r → Quiet a (suc (asked r)) u → Reported b (suc n) u
  reported_quiet a r u s q = record { count = s.count; few = rw q.same s.few; paid = omega arith; small = rw q.same s.small }

  reported_more : (a bs : List ℕ) (r : Reading) → asked r ≡ 3 → ReportedFields b n a r → length bs ≤ 9 → Small bs → ReportedFields b (suc n) (a ++ bs) ground_state
  reported_more a bs r e s h p =
      record { count = suc s.count; few = rw length-append (omega arith); paid = omega arith; small = All-append (λ x. x < 256) a bs s.small p }

  -- a control sequence's end: the program is told something only by CSI n, and only after a parameter
  quiet_ground : (t : Term) (m : ℕ) → Quiet t.answer m (back_to_ground t)
  quiet_ground t m = record { same = refl; most = omega arith }

  done_report : (t : Term) (private : Bool) (ps : List ℕ) → done_sequence t private ps 110 ≡ pick private t (answers t (get_or ps 0 0))
  done_report t true ps = refl
  done_report t false ps = refl

  module _ (w h : ℕ) (narrow : w ≤ 200) (low : h ≤ 60) where
    reported_answers : (t : Term) (r : Reading) (k : ℕ) → Sound w h t → asked r ≡ 3 → ReportedFields b n t.answer r → Reported b (suc n) (answers (back_to_ground t) k)
    reported_answers t r k o e s =
        let R : Term → Type 0 = Reported b (suc n) in
        let d = place_told_short w h t narrow low o in
        pick_both R (eqb k 6) _ _ (reported_more t.answer (place_told t) r e s d.0 d.1)
        (pick_both R (eqb k 5) _ _
        (reported_more t.answer (27 ∷ 91 ∷ 48 ∷ 110 ∷ []) r e s (omega arith) (omega arith, (omega arith, (omega arith, (omega arith, tt)))))
        (reported_quiet t.answer r (back_to_ground t) s (quiet_ground t (suc (asked r)))))

    reported_question :
        (t : Term) (private : Bool) (ps now : List ℕ) → Sound w h t → ReportedFields b n t.answer (sequence private ps now) →
        Reported b (suc n) (answers (back_to_ground t) (get_or (all_numbers ps now) 0 0))
    reported_question t private [] [] o s = reported_quiet t.answer (sequence private [] []) (back_to_ground t) s (quiet_ground t _)
    reported_question t private [] (m ∷ ms) o s = reported_answers t (sequence private [] (m ∷ ms)) (get_or (all_numbers [] (m ∷ ms)) 0 0) o refl s
    reported_question t private (m ∷ ms) now o s = reported_answers t (sequence private (m ∷ ms) now) (get_or (all_numbers (m ∷ ms) now) 0 0) o refl s

    reported_done :
        (t : Term) (private : Bool) (ps now : List ℕ) (c : ℕ) → Sound w h t → ReportedFields b n t.answer (sequence private ps now) →
        Reported b (suc n) (done_sequence (back_to_ground t) private (all_numbers ps now) c)
    reported_done t private ps now c o s =
        let a : List ℕ = t.answer in
        let r : Reading = sequence private ps now in
        let m : ℕ = suc (asked r) in
        let u : Term = back_to_ground t in
        elim (cases_eq c 110) [
          | inl e ↦ rw (e, done_report) (pick_both (Reported b (suc n)) private _ _ (reported_quiet a r u s (quiet_ground t m)) (reported_question t private ps now o s))
          | inr e ↦ reported_quiet a r (done_sequence u private (all_numbers ps now) c) s
              (sequence_keeps (Quiet a m) (quiet_controls a m) u private (all_numbers ps now) c (λ x. absurd (e x)) (quiet_ground t m))
        ]

    reported_sequence_byte :
        (t : Term) (private : Bool) (ps now : List ℕ) (c : ℕ) → Sound w h t → ReportedFields b n t.answer (sequence private ps now) →
        Reported b (suc n) (byte_of_sequence t private ps now c)
    reported_sequence_byte t private ps now c o s =
        let R : Term → Type 0 = Reported b (suc n) in
        let reads : (r : Reading) → R (with_reading t r) = λ r.
        reported_quiet t.answer (sequence private ps now) (with_reading t r) s
        (record { same = refl; most = omega (arith, asked_most r, asked_sequence private ps now) }) in
        pick_both R (leb 48 c && leb c 57) _ _ (reads _)
        (pick_both R (eqb c 59) _ _ (reads _)
        (pick_both R (eqb c 63) _ _ (pick_both R (none_of ps && (none_of now && not private)) _ _ (reads _) (reads _))
        (pick_both R (leb 64 c) _ _ (reported_done t private ps now c o s) (reads _))))

    -- the parser reads r, which is the terminal's own
    quiet_read : (t : Term) (r : Reading) → t.reading ≡ r → Quiet t.answer (suc (asked r)) t
    quiet_read t r e = record { same = refl; most = rw e (omega arith) }

    reported_byte_read : (t : Term) (r : Reading) (c : ℕ) → t.reading ≡ r → Sound w h t → ReportedFields b n t.answer r → Reported b (suc n) (byte_read t r c)
    reported_byte_read t ground_state c e o s = reported_quiet t.answer ground_state (byte_read t ground_state c) s (quiet_printed t.answer 1 t _ (quiet_read t ground_state e))
    reported_byte_read t escape c e o s =
        let Q : Term → Type 0 = Quiet t.answer 2 in
        let reads : (r : Reading) → asked r ≤ 2 → Q (with_reading t r) = λ r h. record { same = refl; most = h } in
        reported_quiet t.answer escape (byte_read t escape c) s
        (pick_both Q (eqb c 91) _ _ (reads _ (omega arith)) (pick_both Q (eqb c 93) _ _ (reads string (omega arith))
        (pick_both Q (leb 32 c && leb c 47) _ _ (reads passed (omega arith)) (escape_keeps Q (quiet_controls t.answer 2) (back_to_ground t) c (quiet_ground t 2)))))
    reported_byte_read t (sequence private ps now) c e o s =
        pick_both (Reported b (suc n)) (leb 128 c) _ _ (reported_quiet t.answer (sequence private ps now) (with_reading t passed) s (record { same = refl; most = omega arith }))
        (reported_sequence_byte t private ps now c o s)
    reported_byte_read t passed c e o s =
        reported_quiet t.answer passed (byte_read t passed c) s (pick_both (Quiet t.answer 1) (leb 64 c && leb c 126) _ _ (quiet_ground t 1) (quiet_read t passed e))
    reported_byte_read t string c e o s = reported_quiet t.answer string t s (quiet_read t string e)
    reported_byte_read t string_end c e o s =
        reported_quiet t.answer string_end (byte_read t string_end c) s
        (pick_both (Quiet t.answer 1) (eqb c 92) _ _ (quiet_ground t 1) (record { same = refl; most = omega arith }))

    reported_low_byte : (t : Term) (c : ℕ) → Reported b n t → Reported b (suc n) (low_byte t c)
    unfolding low_byte
    reported_low_byte t c s =
        let m : ℕ = suc (asked t.reading) in
        let Q : Term → Type 0 = Quiet t.answer m in
        let escapes = pick_both (λ r. asked r ≤ m) (is_string t.reading) string_end escape (omega arith) (omega arith) in
        reported_quiet t.answer t.reading (low_byte t c) s
        (pick_both Q (eqb c 27) _ _ (record { same = refl; most = escapes })
        (pick_both Q (is_string t.reading) _ _ (pick_both Q (eqb c 7) _ _ (quiet_ground t m) (record { same = refl; most = omega arith }))
        (pick_both Q (or (eqb c 24) (eqb c 26)) _ _ (quiet_ground t m) (control_keeps Q (quiet_controls t.answer m) t c (quiet_read t t.reading refl)))))

    pub reported_byte : (t : Term) (c : ℕ) → Sound w h t → Reported b n t → Reported b (suc n) (byte t c)
    unfolding byte
    reported_byte t c o s =
        pick_both (Reported b (suc n)) (ltb c 32) _ _ (reported_low_byte t c s)
        (pick_both (Reported b (suc n)) (eqb c 127) _ _ (reported_quiet t.answer t.reading t s (quiet_read t t.reading refl))
        (reported_byte_read t t.reading c refl o s))

module _ (w h : ℕ) (narrow : w ≤ 200) (low : h ≤ 60) where
  pub reported_written : (b n : ℕ) (t : Term) (cs : List ℕ) → Sound w h t → Reported b n t → Reported b (n + length cs) (written t cs)
  unfolding written
  reported_written b n t [] o s = rw (add-zero n) s
  reported_written b n t (c ∷ cs) o s =
      let e : n + length (c ∷ cs) ≡ suc n + length cs = omega arith in
      rw e (reported_written b (suc n) (byte t c) cs (sound_byte w h t c o) (reported_byte b n w h narrow low t c o s))

  -- of up to 4,096 bytes, wherever the parser stood before
  pub answer_short : (t : Term) (cs : List ℕ) → Sound w h t → t.answer ≡ [] → length cs ≤ 4096 → (length (written t cs).answer ≤ 9216) × AllByRecursion (λ x. x < 256) (written t cs).answer
  answer_short t cs o e l =
      let m = asked_most t.reading in
      let r = reported_written 0 (asked t.reading) t cs o (record { count = 0; few = rw e (omega arith); paid = omega arith; small = rw e tt }) in
      (omega arith, r.small)
