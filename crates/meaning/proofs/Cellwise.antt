-- What holds of each cell and of the styles in force and saved still holds after every byte and at another size, if it holds of a blank cell, the plain style, what SGR leaves and a character written.
use Rattle.std.proofs.Common.{ℕ, suc, ◌+◌, ◌-◌, ◌≤◌, Bool, eqb, ltb, List, [], ◌∷◌, set}
use Rattle.std.specs.List.{AllByRecursion}
use Rattle.std.proofs.ByRecursion.{All-append, All-take, All-drop, All-set, All-map, All-weaker}
use Rattle.meaning.specs.Words.{pick, so_many}
use Rattle.meaning.specs.Screen.{Style, Cell, Term, plain_style, blank, blank_row, fresh, at, with_rows, with_answer, with_modes, with_region, row_on, row_back, change_row, opened, closed, wiped, put_sign, printed, goes_to, wipe_row, wipe_all, lines_in, lines_out, up_by, down_by, in_region, region, styled_one, styled, fitted_row, fitted}
use Rattle.meaning.specs.Bytes.{modes, mode_one, answers, byte, written}
use Rattle.meaning.proofs.Controls.{Controls, Steps, pick_both, byte_keeps, written_keeps}
use Rattle.meaning.proofs.Edits.{all_replicate, row_at_has_or, all_scrolled_up, all_scrolled_down, all_opened, all_closed, all_wiped, all_fitted_row}

-- C of each cell, S of the styles; over the fields, so that what touches none of them keeps it by computing
pub record HoldsFields (C : Cell → Type 0) (S : Style → Type 0) (rows : List (List Cell)) (style saved : Style) : Type 0 where
  pub cells : AllByRecursion (λ r. AllByRecursion C r) rows
  pub writes : S style
  pub saves : S saved

abbrev pub Holds : (Cell → Type 0) → (Style → Type 0) → Term → Type 0
Holds C S t = HoldsFields C S t.rows t.style t.saved.style

-- what C and S must have for every byte to keep them
pub record Rules (C : Cell → Type 0) (S : Style → Type 0) : Type 0 where
  pub blanks : C blank
  pub plain : S plain_style
  pub restyles : (s : Style) (n : ℕ) → S s → S (styled_one s n)
  pub prints : (c : ℕ) (s : Style) → 32 ≤ c → c ≤ 126 → S s → C (record { sign = c; style = s })

module _ (C : Cell → Type 0) (S : Style → Type 0) (rules : Rules C S) where
  -- short names for what follows
  abbrev Row : List Cell → Type 0
  Row r = AllByRecursion C r

  abbrev H : Term → Type 0
  H t = Holds C S t

  holds_rows : (t : Term) (rs : List (List Cell)) → H t → AllByRecursion Row rs → H (with_rows t rs)
  holds_rows t rs f p = record { cells = p; writes = f.writes; saves = f.saves }

  holds_blank_row : (w : ℕ) → Row (blank_row w)
  holds_blank_row w = all_replicate C w blank rules.blanks

  holds_blank_rows : (n w : ℕ) → AllByRecursion Row (so_many n (blank_row w))
  holds_blank_rows n w = all_replicate Row n (blank_row w) (holds_blank_row w)

  -- scrolling
  holds_scroll_up : (t : Term) (k : ℕ) → H t → H (up_by t k)
  holds_scroll_up t k f = holds_rows t _ f (all_scrolled_up Row t.wide (holds_blank_row t.wide) t.rows t.top t.bottom k f.cells)

  holds_scroll_down : (t : Term) (k : ℕ) → H t → H (down_by t k)
  holds_scroll_down t k f = holds_rows t _ f (all_scrolled_down Row t.wide (holds_blank_row t.wide) t.rows t.top t.bottom k f.cells)

  holds_row_on : (t : Term) → H t → H (row_on t)
  holds_row_on t f = pick_both H (eqb t.row t.bottom) _ _ (holds_scroll_up t 1 f) f

  holds_row_back : (t : Term) → H t → H (row_back t)
  holds_row_back t f = pick_both H (eqb t.row t.top) _ _ (holds_scroll_down t 1 f) f

  holds_insert_rows : (t : Term) (k : ℕ) → H t → H (lines_in t k)
  holds_insert_rows t k f =
      pick_both H (in_region t) _ _ (holds_rows t _ f (all_scrolled_down Row t.wide (holds_blank_row t.wide) t.rows t.row t.bottom k f.cells)) f

  holds_delete_rows : (t : Term) (k : ℕ) → H t → H (lines_out t k)
  holds_delete_rows t k f =
      pick_both H (in_region t) _ _ (holds_rows t _ f (all_scrolled_up Row t.wide (holds_blank_row t.wide) t.rows t.row t.bottom k f.cells)) f

  -- the cursor's row
  holds_change : (t : Term) (g : List Cell → List Cell) → ((r : List Cell) → Row r → Row (g r)) → H t → H (change_row t g)
  holds_change t g h f = holds_rows t _ f (All-set Row t.rows t.row _ (h _ (row_at_has_or Row t.rows t.row tt f.cells)) f.cells)

  holds_wiped : (t : Term) (a b : ℕ) → H t → H (change_row t (wiped a b))
  holds_wiped t a b f = holds_change t (wiped a b) (all_wiped C rules.blanks a b) f

  holds_opened : (t : Term) (c k : ℕ) → H t → H (change_row t (opened t.wide c k))
  holds_opened t c k f = holds_change t _ (all_opened C rules.blanks t.wide c k) f

  holds_closed : (t : Term) (c k : ℕ) → H t → H (change_row t (closed t.wide c k))
  holds_closed t c k f = holds_change t _ (all_closed C rules.blanks t.wide c k) f

  holds_erase_row : (t : Term) (k : ℕ) → H t → H (wipe_row t k)
  holds_erase_row t k f =
      pick_both H (eqb k 0) _ _ (holds_wiped t t.col t.wide f)
      (pick_both H (eqb k 1) _ _ (holds_wiped t 0 (suc t.col) f) (pick_both H (eqb k 2) _ _ (holds_wiped t 0 t.wide f) f))

  holds_erase_all : (t : Term) (k : ℕ) → H t → H (wipe_all t k)
  holds_erase_all t k f =
      let a = holds_erase_row t 0 f in
      let b = holds_erase_row t 1 f in
      pick_both H (eqb k 0) _ _
      (holds_rows (wipe_row t 0) _ a (All-append Row _ _ (All-take Row (suc t.row) _ a.cells) (holds_blank_rows (t.high - suc t.row) t.wide)))
      (pick_both H (eqb k 1) _ _
      (holds_rows (wipe_row t 1) _ b (All-append Row _ _ (holds_blank_rows t.row t.wide) (All-drop Row t.row _ b.cells)))
      (pick_both H (eqb k 2) _ _ (holds_rows t _ f (holds_blank_rows t.high t.wide)) f))

  -- the cursor and the modes
  holds_to : (t : Term) (r c : ℕ) → H t → H (goes_to t r c)
  unfolding goes_to
  holds_to t r c f = pick_both H t.origin _ _ f f

  holds_region : (t : Term) (a b : ℕ) → H t → H (region t a b)
  holds_region t a b f = pick_both H _ _ _ (holds_to (with_region t _ _) 0 0 f) f

  holds_modes : (v private : Bool) (t : Term) (ns : List ℕ) → H t → H (modes v private t ns)
  unfolding modes
  holds_modes v private t [] f = f
  holds_modes v private t (n ∷ ns) f =
      holds_modes v private (mode_one v private t n) ns
      (pick_both H private _ _
      (pick_both H (eqb n 6) _ _ (holds_to (with_modes t t.inserts t.wraps v t.shown) 0 0 f) (pick_both H (eqb n 7) _ _ f (pick_both H (eqb n 25) _ _ f f)))
      (pick_both H (eqb n 4) _ _ f f))

  -- styles
  pub holds_styled : (s : Style) (ns : List ℕ) → S s → S (styled s ns)
  unfolding styled
  holds_styled s [] f = f
  holds_styled s (n ∷ ns) f = holds_styled (styled_one s n) ns (rules.restyles s n f)

  -- characters
  holds_put : (t : Term) (c : ℕ) → 32 ≤ c → c ≤ 126 → H t → H (put_sign t c)
  holds_put t c p q f =
      holds_change (pick t.inserts (change_row t (opened t.wide t.col 1)) t) (λ x. set x t.col (record { sign = c; style = t.style }))
      (λ r h. All-set C r t.col _ (rules.prints c t.style p q f.writes) h)
      (pick_both H t.inserts _ _ (holds_opened t t.col 1 f) f)

  pub holds_printed : (t : Term) (c : ℕ) → 32 ≤ c → c ≤ 126 → H t → H (printed t c)
  unfolding printed
  holds_printed t c p q f =
      let u : Term = pick t.late (at (row_on t) (row_on t).row 0) t in
      let g = holds_put u c p q (pick_both H t.late _ _ (holds_row_on t f) f) in
      pick_both H (ltb (suc (put_sign u c).col) (put_sign u c).wide) _ _ g g

  pub holds_fresh : (w h : ℕ) → H (fresh w h)
  holds_fresh w h = record { cells = holds_blank_rows h w; writes = rules.plain; saves = rules.plain }

  pub holds_fitted : (t : Term) (w h : ℕ) → H t → H (fitted t w h)
  holds_fitted t w h f =
      let kept = All-drop Row (suc t.row - h) t.rows f.cells in
      let cut = All-weaker Row (λ r. Row (fitted_row w r)) (all_fitted_row C rules.blanks w) _ kept in
      record { cells = All-take Row h _ (All-append Row _ _ (All-map Row (fitted_row w) _ cut) (holds_blank_rows h w)); writes = f.writes; saves = rules.plain }

  pub holds_answer : (t : Term) (a : List ℕ) → H t → H (with_answer t a)
  holds_answer t a f = f

  holds_controls : Controls H
  holds_controls = record {
    stay = λ t f. f;
    on = holds_row_on;
    on_first = holds_row_on;
    back = holds_row_back;
    left = λ t k f. f;
    column = λ t k f. f;
    first = λ t f. f;
    up = λ t k f. f;
    down = λ t k f. f;
    up_first = λ t k f. f;
    down_first = λ t k f. f;
    to = holds_to;
    erase_row = holds_erase_row;
    erase_all = holds_erase_all;
    erase_some = λ t k f. holds_wiped t t.col (t.col + k) f;
    insert = λ t k f. holds_opened t t.col k f;
    delete = λ t k f. holds_closed t t.col k f;
    insert_rows = holds_insert_rows;
    delete_rows = holds_delete_rows;
    scroll_up = holds_scroll_up;
    scroll_down = holds_scroll_down;
    set_region = holds_region;
    restyle = λ t ns f. record { cells = f.cells; writes = holds_styled t.style ns f.writes; saves = f.saves };
    set_modes = holds_modes;
    saves = λ t f. record { cells = f.cells; writes = f.writes; saves = f.writes };
    restores = λ t f. record { cells = f.cells; writes = f.saves; saves = f.saves };
    resets = λ t f. holds_fresh t.wide t.high;
  }

  holds_report : (t : Term) (k : ℕ) → H t → H (answers t k)
  holds_report t k f = pick_both H (eqb k 6) _ _ f (pick_both H (eqb k 5) _ _ f f)

  holds_steps : Steps H
  holds_steps = record { controls = holds_controls; report = holds_report; print = holds_printed; reads = λ t r f. f }

  pub holds_byte : (t : Term) (c : ℕ) → H t → H (byte t c)
  holds_byte t c f = byte_keeps H holds_steps t c f

  pub holds_written : (t : Term) (cs : List ℕ) → H t → H (written t cs)
  holds_written t cs f = written_keeps H holds_steps t cs f
