-- What a sound screen holds beside its cells stays small: styles in which nothing but what SGR sets is new, at most sixteen parameters and one that
-- has begun, none above a number from 9,999 on, and a saved cursor within bounds from the screen's on.
-- Every byte leaves it so, and so do another size and a fresh screen.
use Rattle.std.proofs.Common.{ℕ, suc, ◌-◌, ◌<◌, ◌≤◌, Bool, not, ◌&&◌, eqb, ltb, leb, List, [], ◌∷◌, ◌++◌, length, get_or, take, arith, length-take}
use Rattle.std.specs.List.{AllByRecursion}
use Rattle.std.proofs.ByRecursion.{All-take, All-push}
use Rattle.std.proofs.lemmas.Bool.{and_parts, leb-true, cond_both}
use Rattle.meaning.specs.Words.{pick, or, none_of}
use Rattle.meaning.specs.Screen.{Style, Term, Saved, Reading, ground_state, escape, sequence, passed, string, string_end, plain_style, styled_one, styled, fresh, at, with_style, with_reading, with_answer, with_modes, with_region, row_on, row_back, put_sign, printed, goes_to, wipe_row, wipe_all, lines_in, lines_out, in_region, region, fitted}
use Rattle.meaning.specs.Bytes.{modes, mode_one, answers, all_numbers, add_digit, ended, byte_of_sequence, byte_read, is_string, back_to_ground, low_byte, byte, written}
use Rattle.meaning.proofs.Controls.{Controls, pick_both, control_keeps, escape_keeps, sequence_keeps}
use Rattle.meaning.proofs.Sound.{Sound, sound_controls, sound_report, sound_byte}

abbrev pub ShortNumbers : ℕ → List ℕ → Type 0
ShortNumbers most ns = AllByRecursion (λ n. n ≤ most) ns

abbrev pub Short : ℕ → Reading → Type 0
Short most ground_state = Unit {0}
Short most escape = Unit {0}
Short most (sequence private ps now) = (length ps ≤ 16) × ShortNumbers most ps × (length now ≤ 1) × ShortNumbers most now
Short most passed = Unit {0}
Short most string = Unit {0}
Short most string_end = Unit {0}

-- over the fields, so that what touches none of them keeps it by computing
pub record HeldFields (S : Style → Type 0) (most rows cols : ℕ) (style : Style) (saved : Saved) (reading : Reading) : Type 0 where
  pub writes : S style
  pub saves : S saved.style
  pub saved_row : saved.row < rows
  pub saved_col : saved.col < cols
  pub short : Short most reading

-- S holds of the styles, no parameter is above `most`, and the saved cursor is within so many rows and columns
abbrev pub Held : (Style → Type 0) → ℕ → ℕ → ℕ → Term → Type 0
Held S most rows cols t = HeldFields S most rows cols t.style t.saved t.reading

module _ (most : ℕ) (enough : 9999 ≤ most) where
  short_digit : (now : List ℕ) (d : ℕ) → d ≤ 9 → (length (add_digit now d) ≤ 1) × ShortNumbers most (add_digit now d)
  short_digit [] d h = (omega arith, (omega arith, tt))
  short_digit (n ∷ ns) d h = (omega arith, (omega arith, tt))

  short_ended : (now : List ℕ) → ShortNumbers most now → ended now ≤ most
  short_ended [] p = omega arith
  short_ended (n ∷ ns) p = p.0

  short_whole : (private : Bool) (ps now : List ℕ) → Short most (sequence private ps now) → Short most (sequence private (take 16 (ps ++ ended now ∷ [])) [])
  short_whole private ps now s =
      (simp length-take (omega arith), All-take (λ n. n ≤ most) 16 _ (All-push (λ n. n ≤ most) ps (ended now) s.1 (short_ended now s.3)), omega arith, tt)

module _ (w h : ℕ) (S : Style → Type 0) (plain : S plain_style) (one : (s : Style) (n : ℕ) → S s → S (styled_one s n))
    (most rows cols : ℕ) (enough : 9999 ≤ most) (tall : h ≤ rows) (broad : w ≤ cols) where
  abbrev H : Term → Type 0
  H t = Held S most rows cols t

  abbrev Both : Term → Type 0
  Both t = Sound w h t × H t

  held_row_on : (t : Term) → H t → H (row_on t)
  held_row_on t p = pick_both H (eqb t.row t.bottom) _ _ p p

  held_row_back : (t : Term) → H t → H (row_back t)
  held_row_back t p = pick_both H (eqb t.row t.top) _ _ p p

  held_to : (t : Term) (r c : ℕ) → H t → H (goes_to t r c)
  unfolding goes_to
  held_to t r c p = pick_both H t.origin _ _ p p

  held_erase_row : (t : Term) (k : ℕ) → H t → H (wipe_row t k)
  held_erase_row t k p = pick_both H (eqb k 0) _ _ p (pick_both H (eqb k 1) _ _ p (pick_both H (eqb k 2) _ _ p p))

  held_erase_all : (t : Term) (k : ℕ) → H t → H (wipe_all t k)
  held_erase_all t k p =
      pick_both H (eqb k 0) _ _ (held_erase_row t 0 p) (pick_both H (eqb k 1) _ _ (held_erase_row t 1 p) (pick_both H (eqb k 2) _ _ p p))

  held_insert_rows : (t : Term) (k : ℕ) → H t → H (lines_in t k)
  held_insert_rows t k p = pick_both H (in_region t) _ _ p p

  held_delete_rows : (t : Term) (k : ℕ) → H t → H (lines_out t k)
  held_delete_rows t k p = pick_both H (in_region t) _ _ p p

  held_region : (t : Term) (a b : ℕ) → H t → H (region t a b)
  held_region t a b p = pick_both H _ _ _ (held_to (with_region t _ _) 0 0 p) p

  held_modes : (v private : Bool) (t : Term) (ns : List ℕ) → H t → H (modes v private t ns)
  unfolding modes
  held_modes v private t [] p = p
  held_modes v private t (n ∷ ns) p =
      held_modes v private (mode_one v private t n) ns
      (pick_both H private _ _
      (pick_both H (eqb n 6) _ _ (held_to (with_modes t t.inserts t.wraps v t.shown) 0 0 p) (pick_both H (eqb n 7) _ _ p (pick_both H (eqb n 25) _ _ p p)))
      (pick_both H (eqb n 4) _ _ p p))

  held_printed : (t : Term) (c : ℕ) → H t → H (printed t c)
  unfolding printed
  held_printed t c p =
      let u : Term = pick t.late (at (row_on t) (row_on t).row 0) t in
      let g : H (put_sign u c) = pick_both H u.inserts _ _ o o in
      pick_both H (ltb (suc (put_sign u c).col) (put_sign u c).wide) _ _ g g
    where
      o : H (pick t.late (at (row_on t) (row_on t).row 0) t)
      o = pick_both H t.late _ _ (held_row_on t p) p

  pub held_fresh : 1 ≤ w → 1 ≤ h → (x y : ℕ) → Held S most rows cols (fresh x y)
  held_fresh p q x y = record { writes = plain; saves = plain; saved_row = omega arith; saved_col = omega arith; short = tt }

  styled_keeps : (s : Style) (ns : List ℕ) → S s → S (styled s ns)
  unfolding styled
  styled_keeps s [] f = f
  styled_keeps s (n ∷ ns) f = styled_keeps (styled_one s n) ns (one s n f)

  held_style : (t : Term) (s : Style) → H t → S s → H (with_style t s)
  held_style t s p f = record { writes = f; saves = p.saves; saved_row = p.saved_row; saved_col = p.saved_col; short = p.short }

  -- saving needs the cursor to be on the screen, so that both are kept together
  both_controls : Controls Both
  both_controls =
      let k : Controls (Sound w h) = sound_controls w h in
      record {
        stay = λ t p. p;
        on = λ t p. (k.on t p.0, held_row_on t p.1);
        on_first = λ t p. (k.on_first t p.0, held_row_on t p.1);
        back = λ t p. (k.back t p.0, held_row_back t p.1);
        left = λ t n p. (k.left t n p.0, p.1);
        column = λ t n p. (k.column t n p.0, p.1);
        first = λ t p. (k.first t p.0, p.1);
        up = λ t n p. (k.up t n p.0, p.1);
        down = λ t n p. (k.down t n p.0, p.1);
        up_first = λ t n p. (k.up_first t n p.0, p.1);
        down_first = λ t n p. (k.down_first t n p.0, p.1);
        to = λ t r c p. (k.to t r c p.0, held_to t r c p.1);
        erase_row = λ t n p. (k.erase_row t n p.0, held_erase_row t n p.1);
        erase_all = λ t n p. (k.erase_all t n p.0, held_erase_all t n p.1);
        erase_some = λ t n p. (k.erase_some t n p.0, p.1);
        insert = λ t n p. (k.insert t n p.0, p.1);
        delete = λ t n p. (k.delete t n p.0, p.1);
        insert_rows = λ t n p. (k.insert_rows t n p.0, held_insert_rows t n p.1);
        delete_rows = λ t n p. (k.delete_rows t n p.0, held_delete_rows t n p.1);
        scroll_up = λ t n p. (k.scroll_up t n p.0, p.1);
        scroll_down = λ t n p. (k.scroll_down t n p.0, p.1);
        set_region = λ t a b p. (k.set_region t a b p.0, held_region t a b p.1);
        restyle = λ t ns p. (k.restyle t ns p.0, held_style t _ p.1 (styled_keeps t.style ns p.1.writes));
        set_modes = λ v private t ns p. (k.set_modes v private t ns p.0, held_modes v private t ns p.1);
        saves = λ t p. (k.saves t p.0, record { writes = p.1.writes; saves = p.1.writes; saved_row = omega arith; saved_col = omega arith; short = p.1.short });
        restores = λ t p. (k.restores t p.0, held_style t t.saved.style p.1 p.1.saves);
        resets = λ t p. (k.resets t p.0, held_fresh (omega arith) (omega arith) t.wide t.high);
      }

  both_report : (t : Term) (k : ℕ) → Both t → Both (answers t k)
  both_report t k p = (sound_report w h t k p.0, pick_both H (eqb k 6) _ _ p.1 (pick_both H (eqb k 5) _ _ p.1 p.1))

  -- the parser's steps
  held_reading : (t : Term) (r : Reading) → H t → Short most r → H (with_reading t r)
  held_reading t r p s = record { writes = p.writes; saves = p.saves; saved_row = p.saved_row; saved_col = p.saved_col; short = s }

  held_sequence_byte : (t : Term) (private : Bool) (ps now : List ℕ) (c : ℕ) → Both t → Short most (sequence private ps now) → H (byte_of_sequence t private ps now c)
  held_sequence_byte t private ps now c p s =
      let ignored : H (with_reading t passed) = held_reading t passed p.1 tt in
      let g : Both (back_to_ground t) = (p.0, held_reading t ground_state p.1 tt) in
      cond_both (leb 48 c && leb c 57) _ _ H
      (λ e. let b = leb-true c 57 (and_parts (leb 48 c) (leb c 57) e).1 in
      let d = short_digit most enough now (c - 48) (omega arith) in held_reading t (sequence private ps (add_digit now (c - 48))) p.1 (s.0, s.1, d.0, d.1))
      (λ _. pick_both H (eqb c 59) _ _ (held_reading t _ p.1 (short_whole most enough private ps now s))
      (pick_both H (eqb c 63) _ _
      (pick_both H (none_of ps && (none_of now && not private)) _ _ (held_reading t _ p.1 (omega arith, tt, omega arith, tt)) ignored)
      (pick_both H (leb 64 c) _ _
      (sequence_keeps Both both_controls (back_to_ground t) private (all_numbers ps now) c (λ _. both_report (back_to_ground t) (get_or (all_numbers ps now) 0 0) g) g).1 ignored)))

  held_byte_read : (t : Term) (r : Reading) (c : ℕ) → Both t → Short most r → H (byte_read t r c)
  held_byte_read t ground_state c p s = held_printed t _ p.1
  held_byte_read t escape c p s =
      pick_both H (eqb c 91) _ _ (held_reading t _ p.1 (omega arith, tt, omega arith, tt))
      (pick_both H (eqb c 93) _ _ (held_reading t string p.1 tt)
      (pick_both H (leb 32 c && leb c 47) _ _ (held_reading t passed p.1 tt)
      (escape_keeps Both both_controls (back_to_ground t) c (p.0, held_reading t ground_state p.1 tt)).1))
  held_byte_read t (sequence private ps now) c p s = pick_both H (leb 128 c) _ _ (held_reading t passed p.1 tt) (held_sequence_byte t private ps now c p s)
  held_byte_read t passed c p s = pick_both H (leb 64 c && leb c 126) _ _ (held_reading t ground_state p.1 tt) p.1
  held_byte_read t string c p s = p.1
  held_byte_read t string_end c p s = pick_both H (eqb c 92) _ _ (held_reading t ground_state p.1 tt) (held_reading t string p.1 tt)

  held_low_byte : (t : Term) (c : ℕ) → Both t → H (low_byte t c)
  unfolding low_byte
  held_low_byte t c p =
      let reads : (r : Reading) → Short most r → H (with_reading t r) = λ r s. held_reading t r p.1 s in
      pick_both H (eqb c 27) _ _ (reads _ (pick_both (Short most) (is_string t.reading) string_end escape tt tt))
      (pick_both H (is_string t.reading) _ _ (pick_both H (eqb c 7) _ _ (reads ground_state tt) (reads string tt))
      (pick_both H (or (eqb c 24) (eqb c 26)) _ _ (reads ground_state tt) (control_keeps Both both_controls t c p).1))

  pub held_byte : (t : Term) (c : ℕ) → Sound w h t → Held S most rows cols t → Held S most rows cols (byte t c)
  unfolding byte
  held_byte t c s p =
      pick_both H (ltb c 32) _ _ (held_low_byte t c (s, p)) (pick_both H (eqb c 127) _ _ p (held_byte_read t t.reading c (s, p) p.short))

  pub held_written : (t : Term) (cs : List ℕ) → Sound w h t → Held S most rows cols t → Held S most rows cols (written t cs)
  unfolding written
  held_written t [] s p = p
  held_written t (c ∷ cs) s p = held_written (byte t c) cs (sound_byte w h t c s) (held_byte t c s p)

  -- another size saves nothing of the old one, and leaves the parser where it was
  pub held_fitted : 1 ≤ w → 1 ≤ h → (t : Term) → S t.style → Short most t.reading → Held S most rows cols (fitted t w h)
  held_fitted p q t f s = record { writes = f; saves = plain; saved_row = omega arith; saved_col = omega arith; short = s }

pub held_answer : (S : Style → Type 0) (most rows cols : ℕ) (t : Term) (a : List ℕ) → Held S most rows cols t → Held S most rows cols (with_answer t a)
held_answer S most rows cols t a p = p
