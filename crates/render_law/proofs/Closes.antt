-- The closing go as the viewer's terminal sees it, and how many bytes it takes.
use Rattle.std.proofs.Common.{◌≡◌, ℕ, ◌<◌, ◌≤◌, Bool, true, false, ◌&&◌, eqb, ltb, leb, ◌⊎◌, List, [], length, sym, refl, ap, ◌∙◌, inl, inr, arith, length-append}
use mathlib.Core.Bool.{beq}
use Rattle.std.proofs.lemmas.Bool.{and_parts, eqb-true, eq-eqb, cases_Bool, le-leb, lt-ltb, ltb-true}
use Rattle.meaning.specs.Words.{pick}
use Rattle.meaning.specs.Bytes.{written}
use Rattle.meaning.proofs.Controls.{pick_both}
use Rattle.render.specs.Sequences.{cursor_position}
use Rattle.render.specs.Finish.{can_be_at, seen_at, place_bytes, visible_bytes, finish_bytes, finish_pen, finished}
use Rattle.render.specs.declared.pen.Pen.{Pen}
use Rattle.render_law.specs.View.{viewer}
use Rattle.render_law.specs.Law.{all_bytes, Fits, Closes}
use Rattle.render_law.proofs.Views.{View, term_of, view_of, moved, shown_so}
use Rattle.render_law.proofs.Sequences.{then_part, every_append, written_address, written_visible, small_address}

beq_same : (a b : Bool) → beq a b ≡ true → a ≡ b
beq_same true true e = refl
beq_same true false e = cc
beq_same false true e = cc
beq_same false false e = refl

beq_refl : (a : Bool) → beq a a ≡ true
beq_refl true = refl
beq_refl false = refl

shown_already : (v : View) (b : Bool) → v.shown ≡ b → v ≡ shown_so v b
shown_already v b e = λ i. record { wide = v.wide; high = v.high; rows = v.rows; row = v.row; col = v.col; late = v.late; style = v.style; shown = e i }

written_visible_bytes : (v : View) (b : Bool) → written (term_of v) (visible_bytes v.shown b) ≡ term_of (shown_so v b)
unfolding written
written_visible_bytes v b = go (cases_Bool (beq v.shown b))
  where
    go : (beq v.shown b ≡ true) ⊎ (beq v.shown b ≡ false) → written (term_of v) (visible_bytes v.shown b) ≡ term_of (shown_so v b)
    go (inl y) = rw y (ap term_of (shown_already v b (beq_same v.shown b y)))
    go (inr n) = rw n (written_visible v b)

written_finish : (w h row col : ℕ) (visible : Bool) (screen : List ℕ) (pen : Pen) → w ≤ 200 → h ≤ 60 → (visible ≡ true → (row < h) × (col < w))
    → written (viewer w h screen pen) (finish_bytes pen row col visible) ≡ viewer w h screen (finish_pen pen row col visible)
unfolding finish_bytes
written_finish w h row col false screen pen a b f = written_visible_bytes (view_of w h screen pen) false
written_finish w h row col true screen pen a b f = go (cases_Bool (seen_at pen row col true))
  where
    go : (seen_at pen row col true ≡ true) ⊎ (seen_at pen row col true ≡ false)
        → written (viewer w h screen pen) (finish_bytes pen row col true) ≡ viewer w h screen (finish_pen pen row col true)
    go (inl y) = rw y (written_visible_bytes (view_of w h screen pen) true)
    go (inr n) =
        let v : View = view_of w h screen pen in
        rw n (then_part (term_of v) _ (cursor_position row col) _ (written_address v row col (f refl).0 (f refl).1 b a) ∙ written_visible_bytes (moved v row col) true)

-- at most an address and a mode
visible_small : (a b : Bool) → (length (visible_bytes a b) ≤ 6) × (all_bytes (visible_bytes a b) ≡ true)
visible_small true true = (omega arith, refl)
visible_small true false = (omega arith, refl)
visible_small false true = (omega arith, refl)
visible_small false false = (omega arith, refl)

place_small : (w h row col : ℕ) (visible : Bool) (pen : Pen) → w ≤ 200 → h ≤ 60 → (visible ≡ true → (row < h) × (col < w))
    → (length (place_bytes pen row col visible) ≤ 10) × (all_bytes (place_bytes pen row col visible) ≡ true)
place_small w h row col false pen a b f = (omega arith, refl)
place_small w h row col true pen a b f = go (eqb pen.row row && eqb pen.col col) (f refl).0 (f refl).1
  where
    go : (s : Bool) → row < h → col < w → (length (pick s [] (cursor_position row col)) ≤ 10) × (all_bytes (pick s [] (cursor_position row col)) ≡ true)
    go true p q = (omega arith, refl)
    go false p q = small_address row col (omega arith) (omega arith)

finish_small : (w h row col : ℕ) (visible : Bool) (pen : Pen) → w ≤ 200 → h ≤ 60 → (visible ≡ true → (row < h) × (col < w))
    → (length (finish_bytes pen row col visible) ≤ 64) × (all_bytes (finish_bytes pen row col visible) ≡ true)
unfolding finish_bytes
finish_small w h row col visible pen a b f =
    let p = place_small w h row col visible pen a b f in
    let q = visible_small pen.visible visible in
    let e = length-append (place_bytes pen row col visible) (visible_bytes pen.visible visible) in
    let m = p.0 in
    let n = q.0 in
    (omega arith, every_append _ (place_bytes pen row col visible) _ p.1 q.1)

-- what the pen is then
finish_seen : (row col : ℕ) (visible : Bool) (pen : Pen) → (finish_pen pen row col visible).visible ≡ visible
finish_seen row col visible pen = pick_both (λ (q : Pen). q.visible ≡ visible) (seen_at pen row col visible) _ _ refl refl

finish_place : (row col : ℕ) (visible : Bool) (pen : Pen) → visible ≡ true
    → ((finish_pen pen row col visible).row ≡ row) × ((finish_pen pen row col visible).col ≡ col)
finish_place row col false pen e = let z : ◌≡◌ {A = ℕ} 0 1 = cc in absurd (omega arith)
finish_place row col true pen e = go (cases_Bool (eqb pen.row row && eqb pen.col col))
  where
    go : ((eqb pen.row row && eqb pen.col col) ≡ true) ⊎ ((eqb pen.row row && eqb pen.col col) ≡ false)
        → ((finish_pen pen row col true).row ≡ row) × ((finish_pen pen row col true).col ≡ col)
    go (inl y) = let p = and_parts (eqb pen.row row) _ y in rw y (eqb-true pen.row row p.0, eqb-true pen.col col p.1)
    go (inr n) = rw n (refl, refl)

-- nothing is sent where all is as wanted
abbrev set_visible : Pen → Bool → Pen
set_visible pen b = record { row = pen.row; col = pen.col; pending = pen.pending; rendition = pen.rendition; visible = b }

visible_already : (pen : Pen) (b : Bool) → pen.visible ≡ b → set_visible pen b ≡ pen
visible_already pen b e = λ i. record { row = pen.row; col = pen.col; pending = pen.pending; rendition = pen.rendition; visible = sym e i }

seen_already : (row col : ℕ) (visible : Bool) (pen : Pen) → (visible ≡ true → (pen.row ≡ row) × (pen.col ≡ col)) → seen_at pen row col visible ≡ true
seen_already row col false pen f = refl
seen_already row col true pen f = rw (eq-eqb pen.row row (f refl).0) (eq-eqb pen.col col (f refl).1)

finish_still : (row col : ℕ) (visible : Bool) (pen : Pen) → pen.visible ≡ visible → (visible ≡ true → (pen.row ≡ row) × (pen.col ≡ col))
    → (finish_bytes pen row col visible ≡ []) × (finish_pen pen row col visible ≡ pen)
unfolding finish_bytes
finish_still row col visible pen e f =
    let s = seen_already row col visible pen f in
    let b : beq pen.visible visible ≡ true = ap (λ (x : Bool). beq x visible) e ∙ beq_refl visible in
    (rw (s, b), rw s (visible_already pen visible e))

finished_is : (w h row col : ℕ) (visible : Bool) (room : ℕ) (pen : Pen) → 64 ≤ room → (visible ≡ true → (row < h) × (col < w))
    → finished w h row col visible room pen ≡ record { pen = finish_pen pen row col visible; bytes = finish_bytes pen row col visible }
unfolding finished
finished_is w h row col false room pen l f = rw (le-leb 16 room (omega arith))
finished_is w h row col true room pen l f = rw (le-leb 16 room (omega arith), lt-ltb row h (f refl).0, lt-ltb col w (f refl).1)

pub finished_closes : (w h row col : ℕ) (visible : Bool) (room : ℕ) (screen : List ℕ) (pen : Pen) → w ≤ 200 → h ≤ 60 → 64 ≤ room → (visible ≡ true → (row < h) × (col < w))
    → Closes w h row col visible screen pen (finished w h row col visible room pen)
finished_closes w h row col visible room screen pen a b l f =
    let s = finish_small w h row col visible pen a b f in
    rw (finished_is w h row col visible room pen l f) (record {
      goes = written_finish w h row col visible screen pen a b f;
      few = s.0;
      bytes = s.1;
      seen = finish_seen row col visible pen;
      place = finish_place row col visible pen;
      still = λ e g. let q = finish_still row col visible pen e g in λ i. record { pen = q.1 i; bytes = q.0 i };
    })

-- the cursor stays on the screen
fits_so : (w h : ℕ) (pen : Pen) (b : Bool) → Fits w h pen → Fits w h (set_visible pen b)
fits_so w h pen b o = record { row = o.row; col = o.col; marks = o.marks; fore = o.fore; back = o.back }

finish_fits : (w h row col : ℕ) (visible : Bool) (pen : Pen) → can_be_at w h row col visible ≡ true → Fits w h pen → Fits w h (finish_pen pen row col visible)
finish_fits w h row col false pen e o = fits_so w h pen false o
finish_fits w h row col true pen e o =
    let p = and_parts (ltb row h) _ e in
    pick_both (Fits w h) (seen_at pen row col true) _ _ (fits_so w h pen true o)
    (record { row = ltb-true row h p.0; col = ltb-true col w p.1; marks = o.marks; fore = o.fore; back = o.back })

pub finished_fits : (w h row col : ℕ) (visible : Bool) (room : ℕ) (pen : Pen) → Fits w h pen → Fits w h (finished w h row col visible room pen).pen
unfolding finished
finished_fits w h row col visible room pen o = go (cases_Bool (leb 16 room && can_be_at w h row col visible))
  where
    go : ((leb 16 room && can_be_at w h row col visible) ≡ true) ⊎ ((leb 16 room && can_be_at w h row col visible) ≡ false)
        → Fits w h (finished w h row col visible room pen).pen
    go (inl y) = rw y (finish_fits w h row col visible pen (and_parts (leb 16 room) _ y).1 o)
    go (inr n) = rw n o
