-- A sound screen is as large as it says, with its cursor on it and its scroll region within it; every byte leaves it so, and so does another size.
use Rattle.std.proofs.Common.{◌≡◌, ℕ, suc, ◌+◌, ◌-◌, ◌<◌, ◌≤◌, Bool, true, ◌&&◌, eqb, ltb, leb, List, [], ◌∷◌, ◌++◌, length, take, drop, set, Decides, sym, refl, ◌∙◌, arith, length-append, length-drop, length-set, length-take}
use lib.ListN.{length-replicate}
use Rattle.std.specs.List.{AllByRecursion}
use Rattle.std.proofs.ByRecursion.{All-append, All-take, All-drop, All-set}
use Rattle.std.proofs.lemmas.Bool.Decides.{nat_tests, Decides-eqb}
use Rattle.std.proofs.lemmas.Bool.{and_parts, and_from, eqb-true, ltb-true, leb-true, eq-eqb, lt-ltb, le-leb, cond_both}
use Rattle.meaning.specs.Words.{pick, every, each, smaller, so_many}
use Rattle.meaning.specs.Screen.{Cell, Term, blank, blank_row, fresh, at, with_rows, with_answer, with_modes, with_region, row_on, row_back, change_row, opened, closed, wiped, put_sign, step_right, printed, goes_to, goes_up, goes_down, wipe_row, wipe_all, lines_in, lines_out, up_by, down_by, scrolled_up, scrolled_down, in_region, region, fitted_row, fitted}
use Rattle.meaning.specs.Bytes.{modes, mode_one, answers, byte, written}
use Rattle.meaning.specs.Laws.{good, StaysGood}
use Rattle.meaning.proofs.Controls.{Controls, Steps, pick_both, byte_keeps, written_keeps}
use Rattle.meaning.proofs.Edits.{decides_every, all_replicate, row_at_has, all_scrolled_up, all_scrolled_down, length_scrolled_up, length_scrolled_down, length_opened, length_closed, length_wiped, length_fitted_row}

abbrev pub AsWide : ℕ → List (List Cell) → Type 0
AsWide w rs = AllByRecursion (λ r. length r ≡ w) rs

-- over the fields, so that what touches none of them keeps it by computing
pub record SoundFields (w h wide high : ℕ) (rows : List (List Cell)) (row col top bottom : ℕ) : Type 0 where
  pub is_wide : wide ≡ w
  pub is_high : high ≡ h
  pub as_high : length rows ≡ h
  pub as_wide : AsWide w rows
  pub on_row : row < h
  pub on_col : col < w
  pub ordered : top ≤ bottom
  pub inside : bottom < h

abbrev pub Sound : ℕ → ℕ → Term → Type 0
Sound w h t = SoundFields w h t.wide t.high t.rows t.row t.col t.top t.bottom

pub rows_decide : (w : ℕ) (rs : List (List Cell)) → Decides (every (λ r. eqb (length r) w) rs) (AsWide w rs)
rows_decide w rs = decides_every (λ r. eqb (length r) w) (λ r. length r ≡ w) (λ r. Decides-eqb (length r) w) rs

module _ (w h : ℕ) where
  sound_at : (t : Term) (r c : ℕ) → Sound w h t → r < h → c < w → Sound w h (at t r c)
  sound_at t r c s p q =
      record { is_wide = s.is_wide; is_high = s.is_high; as_high = s.as_high; as_wide = s.as_wide; on_row = p; on_col = q; ordered = s.ordered; inside = s.inside }

  sound_rows : (t : Term) (rs : List (List Cell)) → Sound w h t → length rs ≡ h → AsWide w rs → Sound w h (with_rows t rs)
  sound_rows t rs s p q =
      record { is_wide = s.is_wide; is_high = s.is_high; as_high = p; as_wide = q; on_row = s.on_row; on_col = s.on_col; ordered = s.ordered; inside = s.inside }

  sound_first : (t : Term) → Sound w h t → Sound w h (at t t.row 0)
  sound_first t s = sound_at t t.row 0 s s.on_row (omega arith)

  sound_column : (t : Term) (k : ℕ) → Sound w h t → Sound w h (at t t.row (smaller (t.wide - 1) k))
  sound_column t k s = sound_at t t.row _ s s.on_row (omega arith)

  -- scrolling, of rows from one that is not below the region's last
  blank_wide : (t : Term) → Sound w h t → length (blank_row t.wide) ≡ w
  blank_wide t s = length-replicate t.wide blank ∙ s.is_wide

  sound_scrolled_up : (t : Term) (a k : ℕ) → a ≤ t.bottom → Sound w h t → Sound w h (with_rows t (scrolled_up t.wide t.rows a t.bottom k))
  sound_scrolled_up t a k p s =
      sound_rows t _ s (length_scrolled_up t.wide t.rows a t.bottom k p (omega arith) ∙ s.as_high)
      (all_scrolled_up (λ r. length r ≡ w) t.wide (blank_wide t s) t.rows a t.bottom k s.as_wide)

  sound_scrolled_down : (t : Term) (a k : ℕ) → a ≤ t.bottom → Sound w h t → Sound w h (with_rows t (scrolled_down t.wide t.rows a t.bottom k))
  sound_scrolled_down t a k p s =
      sound_rows t _ s (length_scrolled_down t.wide t.rows a t.bottom k p (omega arith) ∙ s.as_high)
      (all_scrolled_down (λ r. length r ≡ w) t.wide (blank_wide t s) t.rows a t.bottom k s.as_wide)

  sound_row_on : (t : Term) → Sound w h t → Sound w h (row_on t)
  sound_row_on t s =
      pick_both (Sound w h) (eqb t.row t.bottom) _ _
      (sound_at (up_by t 1) t.row t.col (sound_scrolled_up t t.top 1 s.ordered s) s.on_row s.on_col)
      (sound_at t _ t.col s (omega arith) s.on_col)

  sound_row_back : (t : Term) → Sound w h t → Sound w h (row_back t)
  sound_row_back t s =
      pick_both (Sound w h) (eqb t.row t.top) _ _
      (sound_at (down_by t 1) t.row t.col (sound_scrolled_down t t.top 1 s.ordered s) s.on_row s.on_col)
      (sound_at t _ t.col s (omega arith) s.on_col)

  sound_insert_rows : (t : Term) (k : ℕ) → Sound w h t → Sound w h (lines_in t k)
  sound_insert_rows t k s =
      cond_both (in_region t) _ _ (Sound w h)
      (λ e. let b = leb-true _ _ (and_parts (leb t.top t.row) _ e).1 in
      sound_first (with_rows t (scrolled_down t.wide t.rows t.row t.bottom k)) (sound_scrolled_down t t.row k b s)) (λ _. s)

  sound_delete_rows : (t : Term) (k : ℕ) → Sound w h t → Sound w h (lines_out t k)
  sound_delete_rows t k s =
      cond_both (in_region t) _ _ (Sound w h)
      (λ e. let b = leb-true _ _ (and_parts (leb t.top t.row) _ e).1 in
      sound_first (with_rows t (scrolled_up t.wide t.rows t.row t.bottom k)) (sound_scrolled_up t t.row k b s)) (λ _. s)

  -- the cursor's row
  sound_change : (t : Term) (f : List Cell → List Cell) → ((r : List Cell) → length r ≡ w → length (f r) ≡ w) → Sound w h t → Sound w h (change_row t f)
  sound_change t f g s =
      sound_rows t _ s (length-set t.rows t.row _ ∙ s.as_high)
      (All-set (λ r. length r ≡ w) t.rows t.row _ (g _ (row_at_has (λ r. length r ≡ w) t.rows t.row (omega arith) s.as_wide)) s.as_wide)

  sound_wiped : (t : Term) (a b : ℕ) → Sound w h t → Sound w h (change_row t (wiped a b))
  sound_wiped t a b s = sound_change t (wiped a b) (length_wiped w a b) s

  sound_opened : (t : Term) (c k : ℕ) → Sound w h t → Sound w h (change_row t (opened t.wide c k))
  sound_opened t c k s = sound_change t _ (λ r e. length_opened t.wide c k r (e ∙ sym s.is_wide) ∙ s.is_wide) s

  sound_closed : (t : Term) (c k : ℕ) → Sound w h t → Sound w h (change_row t (closed t.wide c k))
  sound_closed t c k s = sound_change t _ (λ r e. length_closed t.wide c k r (e ∙ sym s.is_wide) ∙ s.is_wide) s

  sound_erase_row : (t : Term) (k : ℕ) → Sound w h t → Sound w h (wipe_row t k)
  sound_erase_row t k s =
      pick_both (Sound w h) (eqb k 0) _ _ (sound_wiped t t.col t.wide s)
      (pick_both (Sound w h) (eqb k 1) _ _ (sound_wiped t 0 (suc t.col) s) (pick_both (Sound w h) (eqb k 2) _ _ (sound_wiped t 0 t.wide s) s))

  blank_rows : (t : Term) (n : ℕ) → Sound w h t → AsWide w (so_many n (blank_row t.wide))
  blank_rows t n s = all_replicate (λ r. length r ≡ w) n (blank_row t.wide) (blank_wide t s)

  sound_erase_below : (t r : Term) → Sound w h t → Sound w h r → Sound w h (with_rows r (take (suc t.row) r.rows ++ so_many (t.high - suc t.row) (blank_row t.wide)))
  sound_erase_below t r s o =
      sound_rows r _ o (simp (length-append, length-take, length-replicate) (omega arith))
      (All-append (λ x. length x ≡ w) _ _ (All-take (λ x. length x ≡ w) (suc t.row) r.rows o.as_wide) (blank_rows t _ s))

  sound_erase_above : (t r : Term) → Sound w h t → Sound w h r → Sound w h (with_rows r (so_many t.row (blank_row t.wide) ++ drop t.row r.rows))
  sound_erase_above t r s o =
      sound_rows r _ o (simp (length-append, length-drop, length-replicate) (omega arith))
      (All-append (λ x. length x ≡ w) _ _ (blank_rows t t.row s) (All-drop (λ x. length x ≡ w) t.row r.rows o.as_wide))

  sound_erase_all : (t : Term) (k : ℕ) → Sound w h t → Sound w h (wipe_all t k)
  sound_erase_all t k s =
      pick_both (Sound w h) (eqb k 0) _ _ (sound_erase_below t (wipe_row t 0) s (sound_erase_row t 0 s))
      (pick_both (Sound w h) (eqb k 1) _ _ (sound_erase_above t (wipe_row t 1) s (sound_erase_row t 1 s))
      (pick_both (Sound w h) (eqb k 2) _ _ (sound_rows t _ s (length-replicate t.high _ ∙ s.is_high) (blank_rows t t.high s)) s))

  -- the cursor sent to a place, and the scroll region
  sound_to : (t : Term) (r c : ℕ) → Sound w h t → Sound w h (goes_to t r c)
  unfolding goes_to
  sound_to t r c s =
      pick_both (Sound w h) t.origin _ _ (sound_at t _ _ s (omega arith) (omega arith)) (sound_at t _ _ s (omega arith) (omega arith))

  sound_up : (t : Term) (k : ℕ) → Sound w h t → Sound w h (goes_up t k)
  sound_up t k s = sound_at t _ t.col s (grind (arith, nat_tests)) s.on_col

  sound_down : (t : Term) (k : ℕ) → Sound w h t → Sound w h (goes_down t k)
  sound_down t k s = sound_at t _ t.col s (grind (arith, nat_tests)) s.on_col

  sound_regioned : (t : Term) (a b : ℕ) → Sound w h t → a ≤ b → b < h → Sound w h (with_region t a b)
  sound_regioned t a b s p q =
      record { is_wide = s.is_wide; is_high = s.is_high; as_high = s.as_high; as_wide = s.as_wide; on_row = s.on_row; on_col = s.on_col; ordered = p; inside = q }

  sound_region : (t : Term) (a b : ℕ) → Sound w h t → Sound w h (region t a b)
  sound_region t a b s =
      let last : ℕ = pick (eqb b 0) t.high (smaller b t.high) in
      let low : last ≤ t.high = grind (arith, nat_tests) in
      cond_both (ltb a last) _ _ (Sound w h)
      (λ e. let d = ltb-true a last e in sound_to (with_region t (a - 1) (last - 1)) 0 0 (sound_regioned t (a - 1) (last - 1) s (omega arith) (omega arith))) (λ _. s)

  sound_modes : (v private : Bool) (t : Term) (ns : List ℕ) → Sound w h t → Sound w h (modes v private t ns)
  unfolding modes
  sound_modes v private t [] s = s
  sound_modes v private t (n ∷ ns) s =
      sound_modes v private (mode_one v private t n) ns
      (pick_both (Sound w h) private _ _
      (pick_both (Sound w h) (eqb n 6) _ _ (sound_to (with_modes t t.inserts t.wraps v t.shown) 0 0 s)
      (pick_both (Sound w h) (eqb n 7) _ _ s (pick_both (Sound w h) (eqb n 25) _ _ s s)))
      (pick_both (Sound w h) (eqb n 4) _ _ s s))

  -- characters
  sound_put : (t : Term) (c : ℕ) → Sound w h t → Sound w h (put_sign t c)
  sound_put t c s =
      sound_change (pick t.inserts (change_row t (opened t.wide t.col 1)) t) (λ x. set x t.col (record { sign = c; style = t.style }))
      (λ r e. length-set r t.col _ ∙ e) (pick_both (Sound w h) t.inserts _ _ (sound_opened t t.col 1 s) s)

  sound_right : (t : Term) → Sound w h t → Sound w h (step_right t)
  sound_right t s =
      cond_both (ltb (suc t.col) t.wide) _ _ (Sound w h) (λ e. let d = ltb-true _ _ e in sound_at t t.row _ s s.on_row (omega arith)) (λ _. s)

  pub sound_printed : (t : Term) (c : ℕ) → Sound w h t → Sound w h (printed t c)
  unfolding printed
  sound_printed t c s =
      let u : Term = pick t.late (at (row_on t) (row_on t).row 0) t in
      sound_right (put_sign u c) (sound_put u c (pick_both (Sound w h) t.late _ _ (sound_first (row_on t) (sound_row_on t s)) s))

  pub sound_fresh : 1 ≤ w → 1 ≤ h → Sound w h (fresh w h)
  sound_fresh p q =
      record {
        is_wide = refl;
        is_high = refl;
        as_high = length-replicate h _;
        as_wide = all_replicate (λ r. length r ≡ w) h (blank_row w) (length-replicate w blank);
        on_row = q;
        on_col = p;
        ordered = omega arith;
        inside = omega arith;
      }

  -- whatever the screen was
  fitted_rows : (rs : List (List Cell)) → AsWide w (each (fitted_row w) rs)
  fitted_rows [] = tt
  fitted_rows (r ∷ rs) = (length_fitted_row w r, fitted_rows rs)

  pub sound_fitted : (t : Term) → 1 ≤ w → 1 ≤ h → Sound w h (fitted t w h)
  sound_fitted t p q =
      let L : List Cell → Type 0 = λ r. length r ≡ w in
      let blanks = all_replicate L h (blank_row w) (length-replicate w blank) in
      record {
        is_wide = refl;
        is_high = refl;
        as_high = simp (length-append, length-take, length-replicate) (omega arith);
        as_wide = All-take L h _ (All-append L _ _ (fitted_rows (drop (suc t.row - h) t.rows)) blanks);
        on_row = omega arith;
        on_col = omega arith;
        ordered = omega arith;
        inside = omega arith;
      }

  sound_reset : (t : Term) → Sound w h t → Sound w h (fresh t.wide t.high)
  sound_reset t s = rw (s.is_wide, s.is_high) (sound_fresh (omega arith) (omega arith))

  pub sound_controls : Controls (Sound w h)
  sound_controls = record {
    stay = λ t s. s;
    on = sound_row_on;
    on_first = λ t s. sound_first (row_on t) (sound_row_on t s);
    back = sound_row_back;
    left = λ t k s. sound_at t t.row (t.col - k) s s.on_row (omega arith);
    column = sound_column;
    first = sound_first;
    up = sound_up;
    down = sound_down;
    up_first = λ t k s. sound_first (goes_up t k) (sound_up t k s);
    down_first = λ t k s. sound_first (goes_down t k) (sound_down t k s);
    to = sound_to;
    erase_row = sound_erase_row;
    erase_all = sound_erase_all;
    erase_some = λ t k s. sound_wiped t t.col (t.col + k) s;
    insert = λ t k s. sound_opened t t.col k s;
    delete = λ t k s. sound_closed t t.col k s;
    insert_rows = sound_insert_rows;
    delete_rows = sound_delete_rows;
    scroll_up = λ t k s. sound_scrolled_up t t.top k s.ordered s;
    scroll_down = λ t k s. sound_scrolled_down t t.top k s.ordered s;
    set_region = sound_region;
    restyle = λ t ns s. s;
    set_modes = sound_modes;
    saves = λ t s. s;
    restores = λ t s. sound_at t _ _ s (omega arith) (omega arith);
    resets = sound_reset;
  }

  pub sound_report : (t : Term) (k : ℕ) → Sound w h t → Sound w h (answers t k)
  sound_report t k s = pick_both (Sound w h) (eqb k 6) _ _ s (pick_both (Sound w h) (eqb k 5) _ _ s s)

  sound_steps : Steps (Sound w h)
  sound_steps = record { controls = sound_controls; report = sound_report; print = λ t c _ _ s. sound_printed t c s; reads = λ t r s. s }

  pub sound_answer : (t : Term) (a : List ℕ) → Sound w h t → Sound w h (with_answer t a)
  sound_answer t a s = s

  pub sound_byte : (t : Term) (c : ℕ) → Sound w h t → Sound w h (byte t c)
  sound_byte t c s = byte_keeps (Sound w h) sound_steps t c s

  pub sound_written : (t : Term) (cs : List ℕ) → Sound w h t → Sound w h (written t cs)
  sound_written t cs s = written_keeps (Sound w h) sound_steps t cs s

-- the statement's own word for it
pub good_sound : (t : Term) → good t ≡ true → Sound t.wide t.high t
unfolding good
good_sound t g =
    let p = and_parts (eqb (length t.rows) t.high && _) _ g in
    let r = and_parts (eqb (length t.rows) t.high) _ p.0 in
    let q = and_parts (ltb t.row t.high && _) _ p.1 in
    let a = and_parts (ltb t.row t.high) _ q.0 in
    let b = and_parts (leb t.top t.bottom) _ q.1 in
    record {
      is_wide = refl;
      is_high = refl;
      as_high = eqb-true _ _ r.0;
      as_wide = (rows_decide t.wide t.rows).0 r.1;
      on_row = ltb-true _ _ a.0;
      on_col = ltb-true _ _ a.1;
      ordered = leb-true _ _ b.0;
      inside = ltb-true _ _ b.1;
    }

pub sound_good : (w h : ℕ) (t : Term) → Sound w h t → good t ≡ true
unfolding good
sound_good w h t s =
    and_from _ _ (and_from _ _ (eq-eqb _ _ (s.as_high ∙ sym s.is_high)) ((rows_decide t.wide t.rows).1 (rw s.is_wide s.as_wide)))
    (and_from _ _ (and_from _ _ (lt-ltb t.row t.high (omega arith)) (lt-ltb t.col t.wide (omega arith)))
    (and_from _ _ (le-leb t.top t.bottom s.ordered) (lt-ltb t.bottom t.high (omega arith))))

pub stays_good : StaysGood
stays_good t c _ g =
    let s = sound_byte t.wide t.high t c (good_sound t g) in
    (sound_good t.wide t.high (byte t c) s, s.is_wide, s.is_high)
