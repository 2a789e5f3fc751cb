-- What a terminal has answered decides nothing: two that differ only in that differ only in that whatever is written on both.
use Rattle.std.proofs.Common.{◌≡◌, ℕ, suc, ◌-◌, Bool, true, false, not, ◌&&◌, eqb, ltb, leb, List, [], ◌∷◌, get_or, sym, refl, ap, subst}
use Rattle.meaning.specs.Words.{pick, or, none_of, smaller, put_at}
use Rattle.meaning.specs.Screen.{Term, Reading, ground_state, escape, sequence, passed, string, string_end, at, with_answer, change_row, opened, with_region, with_modes, row_on, put_sign, step_right, printed, goes_to, wipe_row, wipe_all, in_region, region}
use Rattle.meaning.specs.Bytes.{control, one_of, answers, mode_one, modes, done_sequence, done_escape, all_numbers, byte_of_sequence, byte_read, is_string, back_to_ground, low_byte, byte, written}
use Rattle.shown.specs.Driven.{unheard}

-- the same but for what has been answered
pub record Alike (t u : Term) : Type 0 where
  pub same : unheard t ≡ unheard u

-- where nothing is decided they are so by computing
alike : {t u : Term} → unheard t ≡ unheard u → Alike t u
alike e = record { same = e }

alike_pick : (b : Bool) (x y v w : Term) → Alike x v → Alike y w → Alike (pick b x y) (pick b v w)
alike_pick true x y v w p q = p
alike_pick false x y v w p q = q

module _ (a : List ℕ) where
  -- the same terminal with another answer
  abbrev other : Term → Term
  other t = with_answer t a

  plain : (t : Term) → Alike t (other t)
  plain t = alike refl

  alike_on : (t : Term) → Alike (row_on t) (row_on (other t))
  alike_on t = alike_pick (eqb t.row t.bottom) _ _ _ _ (alike refl) (alike refl)

  alike_on_first : (t : Term) → Alike (at (row_on t) (row_on t).row 0) (at (row_on (other t)) (row_on (other t)).row 0)
  alike_on_first t = record { same = ap (λ (x : Term). at x x.row 0) (alike_on t).same }

  alike_to : (t : Term) (r c : ℕ) → Alike (goes_to t r c) (goes_to (other t) r c)
  unfolding goes_to
  alike_to t r c = alike_pick t.origin _ _ _ _ (alike refl) (alike refl)

  alike_erase_row : (t : Term) (k : ℕ) → Alike (wipe_row t k) (wipe_row (other t) k)
  alike_erase_row t k = alike_pick (eqb k 0) _ _ _ _ (alike refl) (alike_pick (eqb k 1) _ _ _ _ (alike refl) (alike_pick (eqb k 2) _ _ _ _ (alike refl) (alike refl)))

  alike_erase_all : (t : Term) (k : ℕ) → Alike (wipe_all t k) (wipe_all (other t) k)
  alike_erase_all t k = alike_pick (eqb k 0) _ _ _ _ (alike refl) (alike_pick (eqb k 1) _ _ _ _ (alike refl) (alike_pick (eqb k 2) _ _ _ _ (alike refl) (alike refl)))

  alike_region : (t : Term) (x y : ℕ) → Alike (region t x y) (region (other t) x y)
  alike_region t x y =
      let last : ℕ = pick (eqb y 0) t.high (smaller y t.high) in
      alike_pick (ltb x last) _ _ _ _ (alike_to (with_region t (x - 1) (last - 1)) 0 0) (plain t)

  alike_mode : (v private : Bool) (t : Term) (n : ℕ) → Alike (mode_one v private t n) (mode_one v private (other t) n)
  alike_mode v private t n =
      alike_pick private _ _ _ _
      (alike_pick (eqb n 6) _ _ _ _ (alike_to (with_modes t t.inserts t.wraps v t.shown) 0 0) (alike_pick (eqb n 7) _ _ _ _ (alike refl) (alike_pick (eqb n 25) _ _ _ _ (alike refl) (alike refl))))
      (alike_pick (eqb n 4) _ _ _ _ (alike refl) (alike refl))

  alike_put : (t : Term) (c : ℕ) → Alike (put_sign t c) (put_sign (other t) c)
  alike_put t c =
      let p = alike_pick t.inserts (change_row t (opened t.wide t.col 1)) t (change_row (other t) (opened t.wide t.col 1)) (other t) (alike refl) (plain t) in
      record { same = ap (λ (x : Term). change_row x (λ r. put_at r t.col (record { sign = c; style = t.style }))) p.same }

  alike_right : (t : Term) → Alike (step_right t) (step_right (other t))
  alike_right t = alike_pick (ltb (suc t.col) t.wide) _ _ _ _ (alike refl) (alike refl)

  alike_wrap : (t : Term) → Alike (pick t.late (at (row_on t) (row_on t).row 0) t) (pick t.late (at (row_on (other t)) (row_on (other t)).row 0) (other t))
  alike_wrap t = alike_pick t.late _ _ _ _ (alike_on_first t) (plain t)

  alike_control : (t : Term) (c : ℕ) → Alike (control t c) (control (other t) c)
  alike_control t c =
      alike_pick (eqb c 8) _ _ _ _ (alike refl) (alike_pick (eqb c 9) _ _ _ _ (alike refl)
      (alike_pick (eqb c 13) _ _ _ _ (alike refl) (alike_pick (leb 10 c && leb c 12) _ _ _ _ (alike_on t) (plain t))))

  alike_escape : (t : Term) (c : ℕ) → Alike (done_escape t c) (done_escape (other t) c)
  alike_escape t c =
      alike_pick (eqb c 55) _ _ _ _ (alike refl) (alike_pick (eqb c 56) _ _ _ _ (alike refl) (alike_pick (eqb c 68) _ _ _ _ (alike_on t)
      (alike_pick (eqb c 77) _ _ _ _ (alike_pick (eqb t.row t.top) _ _ _ _ (alike refl) (alike refl))
      (alike_pick (eqb c 69) _ _ _ _ (alike_on_first t) (alike_pick (eqb c 99) _ _ _ _ (alike refl) (plain t))))))

  alike_answers : (t : Term) (k : ℕ) → Alike (answers t k) (answers (other t) k)
  alike_answers t k = alike_pick (eqb k 6) _ _ _ _ (alike refl) (alike_pick (eqb k 5) _ _ _ _ (alike refl) (plain t))

as_other : (t u : Term) → Alike t u → u ≡ with_answer t u.answer
as_other t u p = ap (λ (x : Term). with_answer x u.answer) (sym p.same)

-- what treats a terminal and the same with another answer alike treats all that are alike so
alike_both : (f : Term → Term) → ((a : List ℕ) (t : Term) → Alike (f t) (f (with_answer t a))) → (t u : Term) → Alike t u → Alike (f t) (f u)
alike_both f h t u p = subst (λ (x : Term). Alike (f t) (f x)) (sym (as_other t u p)) (h u.answer t)

alike_modes : (v private : Bool) (t u : Term) (ns : List ℕ) → Alike t u → Alike (modes v private t ns) (modes v private u ns)
unfolding modes
alike_modes v private t u [] p = p
alike_modes v private t u (n ∷ ns) p = alike_modes v private (mode_one v private t n) (mode_one v private u n) ns (alike_both (λ x. mode_one v private x n) (λ a x. alike_mode a v private x n) t u p)

alike_printed : (a : List ℕ) (t : Term) (c : ℕ) → Alike (printed t c) (printed (with_answer t a) c)
unfolding printed
alike_printed a t c = alike_both step_right alike_right _ _ (alike_both (λ x. put_sign x c) (λ b x. alike_put b x c) _ _ (alike_wrap a t))

module _ (a : List ℕ) where
  alike_set : (v private : Bool) (t : Term) (ns : List ℕ) → Alike (modes v private t ns) (modes v private (other a t) ns)
  alike_set v private t ns = alike_modes v private t (other a t) ns (plain a t)

  alike_sequence : (t : Term) (private : Bool) (ps : List ℕ) (c : ℕ) → Alike (done_sequence t private ps c) (done_sequence (other a t) private ps c)
  alike_sequence t private ps c =
      alike_pick private _ _ _ _ (alike_pick (eqb c 104) _ _ _ _ (alike_set true true t ps) (alike_pick (eqb c 108) _ _ _ _ (alike_set false true t ps) (plain a t)))
      (alike_pick (eqb c 65) _ _ _ _ (alike refl) (alike_pick (eqb c 66) _ _ _ _ (alike refl)
      (alike_pick (eqb c 67) _ _ _ _ (alike refl) (alike_pick (eqb c 68) _ _ _ _ (alike refl)
      (alike_pick (eqb c 69) _ _ _ _ (alike refl) (alike_pick (eqb c 70) _ _ _ _ (alike refl)
      (alike_pick (eqb c 71) _ _ _ _ (alike refl) (alike_pick (eqb c 100) _ _ _ _ (alike_to a t (one_of ps 0 - 1) t.col)
      (alike_pick (or (eqb c 72) (eqb c 102)) _ _ _ _ (alike_to a t (one_of ps 0 - 1) (one_of ps 1 - 1))
      (alike_pick (eqb c 74) _ _ _ _ (alike_erase_all a t (get_or ps 0 0)) (alike_pick (eqb c 75) _ _ _ _ (alike_erase_row a t (get_or ps 0 0))
      (alike_pick (eqb c 76) _ _ _ _ (alike_pick (in_region t) _ _ _ _ (alike refl) (plain a t)) (alike_pick (eqb c 77) _ _ _ _ (alike_pick (in_region t) _ _ _ _ (alike refl) (plain a t))
      (alike_pick (eqb c 64) _ _ _ _ (alike refl) (alike_pick (eqb c 80) _ _ _ _ (alike refl) (alike_pick (eqb c 88) _ _ _ _ (alike refl)
      (alike_pick (eqb c 83) _ _ _ _ (alike refl) (alike_pick (eqb c 84) _ _ _ _ (alike refl)
      (alike_pick (eqb c 114) _ _ _ _ (alike_region a t (one_of ps 0) (get_or ps 1 0)) (alike_pick (eqb c 109) _ _ _ _ (alike refl)
      (alike_pick (eqb c 104) _ _ _ _ (alike_set true false t ps) (alike_pick (eqb c 108) _ _ _ _ (alike_set false false t ps)
      (alike_pick (eqb c 110) _ _ _ _ (alike_answers a t (get_or ps 0 0)) (alike_pick (eqb c 115) _ _ _ _ (alike refl) (alike_pick (eqb c 117) _ _ _ _ (alike refl) (plain a t))))))))))))))))))))))))))

  alike_sequence_byte : (t : Term) (private : Bool) (ps now : List ℕ) (c : ℕ) → Alike (byte_of_sequence t private ps now c) (byte_of_sequence (other a t) private ps now c)
  alike_sequence_byte t private ps now c =
      alike_pick (leb 48 c && leb c 57) _ _ _ _ (alike refl) (alike_pick (eqb c 59) _ _ _ _ (alike refl)
      (alike_pick (eqb c 63) _ _ _ _ (alike_pick (none_of ps && (none_of now && not private)) _ _ _ _ (alike refl) (alike refl))
      (alike_pick (leb 64 c) _ _ _ _ (alike_sequence (back_to_ground t) private (all_numbers ps now) c) (alike refl))))

  alike_read : (t : Term) (r : Reading) (c : ℕ) → Alike (byte_read t r c) (byte_read (other a t) r c)
  alike_read t ground_state c = alike_printed a t _
  alike_read t escape c =
      alike_pick (eqb c 91) _ _ _ _ (alike refl) (alike_pick (eqb c 93) _ _ _ _ (alike refl)
      (alike_pick (leb 32 c && leb c 47) _ _ _ _ (alike refl) (alike_escape a (back_to_ground t) c)))
  alike_read t (sequence private ps now) c = alike_pick (leb 128 c) _ _ _ _ (alike refl) (alike_sequence_byte t private ps now c)
  alike_read t passed c = alike_pick (leb 64 c && leb c 126) _ _ _ _ (alike refl) (plain a t)
  alike_read t string c = plain a t
  alike_read t string_end c = alike_pick (eqb c 92) _ _ _ _ (alike refl) (alike refl)

  alike_low : (t : Term) (c : ℕ) → Alike (low_byte t c) (low_byte (other a t) c)
  unfolding low_byte
  alike_low t c =
      alike_pick (eqb c 27) _ _ _ _ (alike refl)
      (alike_pick (is_string t.reading) _ _ _ _ (alike_pick (eqb c 7) _ _ _ _ (alike refl) (alike refl))
      (alike_pick (or (eqb c 24) (eqb c 26)) _ _ _ _ (alike refl) (alike_control a t c)))

  alike_byte : (t : Term) (c : ℕ) → Alike (byte t c) (byte (other a t) c)
  unfolding byte
  alike_byte t c = alike_pick (ltb c 32) _ _ _ _ (alike_low t c) (alike_pick (eqb c 127) _ _ _ _ (plain a t) (alike_read t t.reading c))

pub alike_written : (t u : Term) (cs : List ℕ) → Alike t u → Alike (written t cs) (written u cs)
unfolding written
alike_written t u [] p = p
alike_written t u (c ∷ cs) p = alike_written (byte t c) (byte u c) cs (alike_both (λ x. byte x c) (λ a x. alike_byte a x c) t u p)
