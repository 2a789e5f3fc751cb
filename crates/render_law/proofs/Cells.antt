-- What the bytes of one cell do to a viewer's terminal, and how many there are.
use Rattle.std.proofs.Common.{◌≡◌, ℕ, suc, ◌+◌, ◌*◌, ◌/◌, ◌%◌, ◌^◌, ◌<◌, ◌≤◌, Bool, true, false, not, ◌&&◌, eqb, ltb, leb, ◌⊎◌, List, [], ◌∷◌, ◌++◌, length, set, refl, ap, ◌∙◌, inl, inr, mod-lt, mul_comm, div-lt_iff_lt-mul, add-one, arith, length-append}
use native.Mathlib.Nat.{div-add-mod}
use Rattle.std.proofs.lemmas.Bool.{and_parts, and_from, eqb-true, cases_Bool, leb-true, lt-ltb, not-true}
use Rattle.meaning.specs.Words.{pick, put_at}
use Rattle.meaning.specs.Screen.{Style, Cell, row_at}
use Rattle.meaning.specs.Bytes.{written}
use Rattle.meaning.specs.Laws.{fine_cell, fine_style}
use Rattle.grid.specs.Cells.{unpacked, style_of, rows_of}
use Rattle.grid.specs.declared.cell.Rendition.{Rendition}
use Rattle.grid.proofs.Parts.{rows_put}
use Rattle.render.specs.Sequences.{cursor_position}
use Rattle.render.specs.Pens.{rendition_of, same_rendition, is_at, pen_after}
use Rattle.render.specs.Draw.{move_bytes, restyle_bytes, cell_bytes}
use Rattle.render.specs.declared.pen.Pen.{Pen}
use Rattle.render_law.specs.View.{viewer}
use Rattle.render_law.specs.Law.{all_bytes}
use Rattle.render_law.proofs.Views.{View, term_of, view_of, moved, restyled, signed}
use Rattle.render_law.proofs.Sequences.{then_part, every_append, written_address, written_rendition, written_sign, small_address, small_rendition}

moved_here : (v : View) (r c : ℕ) → v.late ≡ false → v.row ≡ r → v.col ≡ c → v ≡ moved v r c
moved_here v r c l p q = λ i. record { wide = v.wide; high = v.high; rows = v.rows; row = p i; col = q i; late = l i; style = v.style; shown = v.shown }

written_move : (w h : ℕ) (screen : List ℕ) (pen : Pen) (r c : ℕ) → r < h → c < w → h ≤ 60 → w ≤ 200
    → written (viewer w h screen pen) (move_bytes pen r c) ≡ term_of (moved (view_of w h screen pen) r c)
unfolding written
written_move w h screen pen r c a b d e = go (cases_Bool (is_at pen r c))
  where
    go : (is_at pen r c ≡ true) ⊎ (is_at pen r c ≡ false) → written (viewer w h screen pen) (move_bytes pen r c) ≡ term_of (moved (view_of w h screen pen) r c)
    go (inl y) =
        let p = and_parts (not pen.pending) _ y in
        let q = and_parts (eqb pen.row r) _ p.1 in
        rw y (ap term_of (moved_here (view_of w h screen pen) r c (not-true pen.pending p.0) (eqb-true pen.row r q.0) (eqb-true pen.col c q.1)))
    go (inr n) = rw n (written_address (view_of w h screen pen) r c a b d e)

written_restyle : (v : View) (was r : Rendition) → v.style ≡ style_of was → fine_style (style_of r) ≡ true
    → written (term_of v) (restyle_bytes was r) ≡ term_of (restyled v (style_of r))
unfolding written
written_restyle v was r s f = go (cases_Bool (same_rendition was r))
  where
    go : (same_rendition was r ≡ true) ⊎ (same_rendition was r ≡ false) → written (term_of v) (restyle_bytes was r) ≡ term_of (restyled v (style_of r))
    go (inl y) =
        let p = and_parts (eqb was.marks r.marks) _ y in
        let q = and_parts (eqb was.fore r.fore) _ p.1 in
        let e : style_of was ≡ style_of r =
        (λ i. record { marks = eqb-true was.marks r.marks p.0 i; fore = eqb-true was.fore r.fore q.0 i; back = eqb-true was.back r.back q.1 i }) in
        rw y (ap (λ (x : Style). term_of (restyled v x)) (s ∙ e))
    go (inr n) = rw n (written_rendition v (style_of r) f)

abbrev view_with : ℕ → ℕ → List (List Cell) → Bool → Style → ℕ → ℕ → Bool → View
view_with w h rows shown st r c late = record { wide = w; high = h; rows = rows; row = r; col = c; late = late; style = st; shown = shown }

both_ways : (b : Bool) (w h : ℕ) (rows : List (List Cell)) (shown : Bool) (st : Style) (r c : ℕ)
    → pick b (view_with w h rows shown st r (suc c) false) (view_with w h rows shown st r c true) ≡ view_with w h rows shown st r (pick b (suc c) c) (not b)
both_ways true w h rows shown st r c = refl
both_ways false w h rows shown st r c = refl

signed_is : (w h : ℕ) (screen screen₁ : List ℕ) (pen : Pen) (r c s : ℕ) (l : Rendition)
    → rows_of w h screen₁ ≡ put_at (rows_of w h screen) r (put_at (row_at (rows_of w h screen) r) c (record { sign = s; style = style_of l }))
    → signed (restyled (moved (view_of w h screen pen) r c) (style_of l)) s ≡ view_of w h screen₁ (pen_after w pen r c l)
signed_is w h screen screen₁ pen r c s l e = rw (add-one c, e) (both_ways (ltb (suc c) w) w h _ pen.visible (style_of l) r c)

-- where cell i is
pub place_of : (w h i : ℕ) → 0 < w → i < h * w → (i / w < h) × (i % w < w)
place_of w h i z l = ((div-lt_iff_lt-mul z).1 l, mod-lt i z)

-- what is known of a fine cell's number
sign_fine : (p : ℕ) → fine_cell (unpacked p) ≡ true → (p % 2 ^ 32 ≡ p % 256) × (32 ≤ p % 256) × (p % 256 < 127)
sign_fine p f =
    let q = and_parts (leb 32 (p % 2 ^ 32) && leb (p % 2 ^ 32) 126) _ f in
    let t = and_parts (leb 32 (p % 2 ^ 32)) _ q.0 in
    let lo = leb-true 32 (p % 2 ^ 32) t.0 in
    let hi = leb-true (p % 2 ^ 32) 126 t.1 in
    (omega arith, omega arith, omega arith)

style_fine : (p : ℕ) → fine_cell (unpacked p) ≡ true → fine_style (style_of (rendition_of p)) ≡ true
style_fine p f = (and_parts (leb 32 (p % 2 ^ 32) && leb (p % 2 ^ 32) 126) _ f).1

pub written_cell : (w h i p : ℕ) (screen : List ℕ) (pen : Pen) → 0 < w → w ≤ 200 → h ≤ 60 → i < h * w → fine_cell (unpacked p) ≡ true
    → written (viewer w h screen pen) (cell_bytes pen (i / w) (i % w) p) ≡ viewer w h (set screen i p) (pen_after w pen (i / w) (i % w) (rendition_of p))
unfolding cell_bytes
written_cell w h i p screen pen z a b l f =
    let at = place_of w h i z l in
    let s = sign_fine p f in
    let e : i / w * w + i % w ≡ i = omega (arith, div-add-mod i w, mul_comm w (i / w)) in
    let rows = rows_put w h (i / w) (i % w) p screen at.1 in
    let v : View = view_of w h screen pen in
    then_part (term_of v) _ (move_bytes pen (i / w) (i % w)) _ (written_move w h screen pen (i / w) (i % w) at.0 at.1 b a)
    ∙ (then_part (term_of (moved v (i / w) (i % w))) _ (restyle_bytes pen.rendition (rendition_of p)) _
    (written_restyle (moved v (i / w) (i % w)) pen.rendition (rendition_of p) refl (style_fine p f))
    ∙ (written_sign (restyled (moved v (i / w) (i % w)) (style_of (rendition_of p))) (p % 256) refl s.1 s.2
    ∙ ap term_of (signed_is w h screen (set screen i p) pen (i / w) (i % w) (p % 256) (rendition_of p) (rw (e, s.0) at rows))))

-- a part that may be left out
maybe_small : (b : Bool) (xs : List ℕ) (n : ℕ) → (length xs ≤ n) × (all_bytes xs ≡ true) → (length (pick b [] xs) ≤ n) × (all_bytes (pick b [] xs) ≡ true)
maybe_small true xs n h = (omega arith, refl)
maybe_small false xs n h = h

-- few, but some, and bytes all
pub record CellBytes (bs : List ℕ) : Type 0 where
  pub some : 0 < length bs
  pub most : length bs ≤ 32
  pub bytes : all_bytes bs ≡ true

-- a character at least, of any cell
pub cell_some : (pen : Pen) (r c p : ℕ) → 0 < length (cell_bytes pen r c p)
unfolding cell_bytes
cell_some pen r c p =
    let e = length-append (move_bytes pen r c) (restyle_bytes pen.rendition (rendition_of p) ++ (p % 256 ∷ [])) in
    let d = length-append (restyle_bytes pen.rendition (rendition_of p)) (p % 256 ∷ []) in
    omega arith

pub cell_small : (pen : Pen) (r c p : ℕ) → r < 60 → c < 200 → fine_cell (unpacked p) ≡ true → CellBytes (cell_bytes pen r c p)
unfolding cell_bytes
cell_small pen r c p h k f =
    let s = (sign_fine p f).2 in
    let a = maybe_small (is_at pen r c) (cursor_position r c) 10 (small_address r c h k) in
    let b = maybe_small (same_rendition pen.rendition (rendition_of p)) _ 16 (small_rendition (style_of (rendition_of p)) (style_fine p f)) in
    let e = length-append (move_bytes pen r c) (restyle_bytes pen.rendition (rendition_of p) ++ (p % 256 ∷ [])) in
    let d = length-append (restyle_bytes pen.rendition (rendition_of p)) (p % 256 ∷ []) in
    let m = a.0 in
    let n = b.0 in
    record {
      some = cell_some pen r c p;
      most = omega arith;
      bytes = every_append _ (move_bytes pen r c) _ a.1
          (every_append _ (restyle_bytes pen.rendition (rendition_of p)) _ b.1 (and_from (ltb (p % 256) 256) true (lt-ltb (p % 256) 256 (omega arith)) refl));
    }
