-- Whatever bytes are written, a terminal keeps its size, be it sound or not.
use Rattle.std.proofs.Common.{◌≡◌, ℕ, suc, ◌-◌, Bool, eqb, ltb, List, [], ◌∷◌, refl}
use Rattle.meaning.specs.Words.{pick, smaller}
use Rattle.meaning.specs.Screen.{Term, at, with_region, with_modes, row_on, row_back, goes_to, wipe_row, wipe_all, in_region, region, put_sign, printed}
use Rattle.meaning.specs.Bytes.{answers, mode_one, modes, written}
use Rattle.meaning.proofs.Controls.{pick_both, Controls, Steps, written_keeps}

abbrev pub Sized : ℕ → ℕ → Term → Type 0
Sized w h t = (t.wide ≡ w) × (t.high ≡ h)

module _ (w h : ℕ) where
  sized_on : (t : Term) → Sized w h t → Sized w h (row_on t)
  sized_on t s = pick_both (Sized w h) (eqb t.row t.bottom) _ _ s s

  sized_back : (t : Term) → Sized w h t → Sized w h (row_back t)
  sized_back t s = pick_both (Sized w h) (eqb t.row t.top) _ _ s s

  sized_to : (t : Term) (r c : ℕ) → Sized w h t → Sized w h (goes_to t r c)
  unfolding goes_to
  sized_to t r c s = pick_both (Sized w h) t.origin _ _ s s

  sized_row : (t : Term) (k : ℕ) → Sized w h t → Sized w h (wipe_row t k)
  sized_row t k s = pick_both (Sized w h) (eqb k 0) _ _ s (pick_both (Sized w h) (eqb k 1) _ _ s (pick_both (Sized w h) (eqb k 2) _ _ s s))

  sized_all : (t : Term) (k : ℕ) → Sized w h t → Sized w h (wipe_all t k)
  sized_all t k s = pick_both (Sized w h) (eqb k 0) _ _ (sized_row t 0 s) (pick_both (Sized w h) (eqb k 1) _ _ (sized_row t 1 s) (pick_both (Sized w h) (eqb k 2) _ _ s s))

  sized_region : (t : Term) (a b : ℕ) → Sized w h t → Sized w h (region t a b)
  sized_region t a b s =
      let last : ℕ = pick (eqb b 0) t.high (smaller b t.high) in
      pick_both (Sized w h) (ltb a last) _ _ (sized_to (with_region t (a - 1) (last - 1)) 0 0 s) s

  sized_modes : (v private : Bool) (t : Term) (ns : List ℕ) → Sized w h t → Sized w h (modes v private t ns)
  unfolding modes
  sized_modes v private t [] s = s
  sized_modes v private t (n ∷ ns) s =
      sized_modes v private (mode_one v private t n) ns
      (pick_both (Sized w h) private _ _
      (pick_both (Sized w h) (eqb n 6) _ _ (sized_to (with_modes t t.inserts t.wraps v t.shown) 0 0 s)
      (pick_both (Sized w h) (eqb n 7) _ _ s (pick_both (Sized w h) (eqb n 25) _ _ s s)))
      (pick_both (Sized w h) (eqb n 4) _ _ s s))

  sized_controls : Controls (Sized w h)
  sized_controls = record {
    stay = λ t s. s;
    on = sized_on;
    on_first = sized_on;
    back = sized_back;
    left = λ t k s. s;
    column = λ t k s. s;
    first = λ t s. s;
    up = λ t k s. s;
    down = λ t k s. s;
    up_first = λ t k s. s;
    down_first = λ t k s. s;
    to = sized_to;
    erase_row = sized_row;
    erase_all = sized_all;
    erase_some = λ t k s. s;
    insert = λ t k s. s;
    delete = λ t k s. s;
    insert_rows = λ t k s. pick_both (Sized w h) (in_region t) _ _ s s;
    delete_rows = λ t k s. pick_both (Sized w h) (in_region t) _ _ s s;
    scroll_up = λ t k s. s;
    scroll_down = λ t k s. s;
    set_region = sized_region;
    restyle = λ t ns s. s;
    set_modes = sized_modes;
    saves = λ t s. s;
    restores = λ t s. s;
    resets = λ t s. s;
  }

  sized_report : (t : Term) (k : ℕ) → Sized w h t → Sized w h (answers t k)
  sized_report t k s = pick_both (Sized w h) (eqb k 6) _ _ s (pick_both (Sized w h) (eqb k 5) _ _ s s)

  sized_printed : (t : Term) (c : ℕ) → Sized w h t → Sized w h (printed t c)
  unfolding printed
  sized_printed t c s =
      let u : Term = pick t.late (at (row_on t) (row_on t).row 0) t in
      let s₁ : Sized w h u = pick_both (Sized w h) t.late _ _ (sized_on t s) s in
      let s₂ : Sized w h (put_sign u c) = pick_both (Sized w h) u.inserts _ _ s₁ s₁ in
      pick_both (Sized w h) (ltb (suc (put_sign u c).col) (put_sign u c).wide) _ _ s₂ s₂

  sized_steps : Steps (Sized w h)
  sized_steps = record { controls = sized_controls; report = sized_report; print = λ t c _ _ s. sized_printed t c s; reads = λ t r s. s }

pub sized_written : (t : Term) (cs : List ℕ) → Sized t.wide t.high (written t cs)
sized_written t cs = written_keeps (Sized t.wide t.high) (sized_steps t.wide t.high) t cs (refl, refl)
