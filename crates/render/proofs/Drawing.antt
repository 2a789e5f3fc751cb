-- The loop over the cells: what is left to draw, from the state so far, gives the whole go.
use Rattle.std.proofs.Common.{◌≡◌, ℕ, ◌+◌, ◌*◌, ◌/◌, ◌%◌, ◌<◌, ◌≤◌, Bool, true, false, ◌&&◌, eqb, ◌⊎◌, List, ◌++◌, length, get_or, take, drop, set, sym, refl, ap, ◌∙◌, inl, inr, arith}
use Rattle.std.proofs.lemmas.Bool.Decides.{nat_tests}
use Rattle.std.proofs.lemmas.List.{at_drop_more, at_drop_all, length-take-le, take-append-drop}
use Rattle.std.proofs.lemmas.Bool.{eq-eqb, ne_eqb, le-leb, lt-leb}
use Rattle.meaning.specs.Words.{pick}
use Rattle.output.proofs.Adding.{kept_on}
use Rattle.output.specs.Added.{Added, Adds}
use Rattle.output.specs.declared.Buffer.{Buffer}
use Rattle.render.specs.Pens.{rendition_of, pen_after}
use Rattle.render.specs.Draw.{Go, Drew, drawn, drawn_from, drawn_cell, at_start, cell_bytes}
use Rattle.render.specs.declared.pen.Pen.{Pen}

abbrev pub state : List ℕ → Pen → ℕ → List ℕ → Go
state screen pen len out = record { screen = screen; pen = pen; bytes = take len out }

-- one cell more
pub goes_on : (w room i : ℕ) (xs : List ℕ) (s t : Go) → i < length xs → drawn_cell w room i (get_or xs i 0) s ≡ t →
    drawn_from w room (drop i xs) i s ≡ drawn_from w room (drop (i + 1) xs) (i + 1) t
unfolding drawn_from
goes_on w room i xs s t l e =
    at_drop_more (λ (ps : List ℕ). drawn_from w room ps i s) xs i 0 l ∙ ap (λ (u : Go). drawn_from w room (drop (i + 1) xs) (i + 1) u) e

pick_same : {A : Type 0} (b : Bool) (x : A) → pick b x x ≡ x
pick_same true x = refl
pick_same false x = refl

pub cell_left : (w room i p : ℕ) (screen : List ℕ) (pen : Pen) (n : ℕ) (out : List ℕ) → n ≤ length out →
    (get_or screen i 0 ≡ p) ⊎ (room < n + 32) → drawn_cell w room i p (state screen pen n out) ≡ state screen pen n out
unfolding drawn_cell
cell_left w room i p screen pen n out l (inl e) = rw (eq-eqb (get_or screen i 0) p e)
cell_left w room i p screen pen n out l (inr e) =
    let k : length (take n out) ≡ n = length-take-le n out l in
    rw (k, lt-leb (n + 32) room e) (pick_same (eqb (get_or screen i 0) p) _)

pub cell_sent : (w room i p : ℕ) (screen : List ℕ) (pen : Pen) (n r : ℕ) (out out₁ : List ℕ) → n ≤ length out →
    (get_or screen i 0 ≡ p → ⊥) → n + 32 ≤ room → Added n out r out₁ (cell_bytes pen (i / w) (i % w) p) →
    drawn_cell w room i p (state screen pen n out) ≡ state (set screen i p) (pen_after w pen (i / w) (i % w) (rendition_of p)) r out₁
unfolding drawn_cell
cell_sent w room i p screen pen n r out out₁ l d e a =
    let k : length (take n out) ≡ n = length-take-le n out l in
    rw (ne_eqb (get_or screen i 0) p d, k, le-leb (n + 32) room e)
    (ap (λ (x : List ℕ). record { screen = set screen i p; pen = pen_after w pen (i / w) (i % w) (rendition_of p); bytes = x }) (sym a.said))

-- what the lent row holds then
pub row_is : (r : ℕ) (out out₁ bs : List ℕ) → take r out₁ ≡ bs → drop r out₁ ≡ drop r out → r ≡ length bs → out₁ ≡ bs ++ drop (length bs) out
row_is r out out₁ bs b k l =
    sym (take-append-drop r out₁) ∙ (ap (λ (x : List ℕ). x ++ drop r out₁) b ∙ ap (λ (x : List ℕ). bs ++ x) (k ∙ ap (λ (n : ℕ). drop n out) l))

done : (d : Go) (screen : List ℕ) (pen : Pen) (r : ℕ) (out out₁ : List ℕ) → state screen pen r out₁ ≡ d → drop r out₁ ≡ drop r out
    → r ≤ length out → length out₁ ≡ length out → Drew d screen pen r out out₁
done d screen pen r out out₁ e k m n =
    let b : take r out₁ ≡ d.bytes = ap (λ (s : Go). s.bytes) e in
    let l : r ≡ length d.bytes = sym (length-take-le r out₁ (omega arith)) ∙ ap length b in
    record { shows = ap (λ (s : Go). s.screen) e; set_to = ap (λ (s : Go). s.pen) e; sent = l; within = m; so = row_is r out out₁ d.bytes b k l }

pub refused : (w h room : ℕ) (pic scr : List ℕ) (pen : Pen) (out : List ℕ) → (length scr ≡ h * w → length pic ≡ h * w → ⊥) → Drew (drawn w h pic room scr pen) scr pen 0 out out
unfolding drawn
refused w h room pic scr pen out f =
    let e : (eqb (length scr) (h * w) && eqb (length pic) (h * w)) ≡ false = grind (arith, nat_tests) in
    done _ scr pen 0 out out (rw e) refl (omega arith) refl

-- the loop before the cell i: what is left makes the whole, and x is the buffer that the loop began with
pub record Going (w : ℕ) (pic : List ℕ) (all : Go) (x : Buffer) (i : ℕ) (screen : List ℕ) (pen : Pen) (y : Buffer) : Type 0 where
  pub on : drawn_from w (length x.bytes.now) (drop i pic) i (state screen pen y.len y.bytes.now) ≡ all
  pub kept : drop y.len y.bytes.now ≡ drop y.len x.bytes.now
  pub most : y.len ≤ length x.bytes.now
  pub long : length y.bytes.now ≡ length x.bytes.now
  pub same_row : y.bytes.ghost_name ≡ x.bytes.ghost_name

pub turn_left : {w : ℕ} {pic : List ℕ} {all : Go} {x : Buffer} {i : ℕ} {screen : List ℕ} {pen : Pen} {y : Buffer} →
    i < length pic → (get_or screen i 0 ≡ get_or pic i 0) ⊎ (length y.bytes.now < y.len + 32) → Going w pic all x i screen pen y → Going w pic all x (i + 1) screen pen y
turn_left {w} {pic} {all} {x} {i} {screen} {pen} {y} l d g =
    let m = g.most in
    let n = g.long in
    record {
      on = sym (goes_on w (length x.bytes.now) i pic _ _ l (cell_left w (length x.bytes.now) i (get_or pic i 0) screen pen y.len y.bytes.now (omega arith) (rw n at d))) ∙ g.on;
      kept = g.kept;
      most = m;
      long = n;
      same_row = g.same_row;
    }

pub turn_sent : {w : ℕ} {pic : List ℕ} {all : Go} {x : Buffer} {i : ℕ} {screen : List ℕ} {pen pen₁ : Pen} {y z : Buffer} →
    i < length pic → (get_or screen i 0 ≡ get_or pic i 0 → ⊥) → y.len + 32 ≤ length y.bytes.now →
    Adds y z (cell_bytes pen (i / w) (i % w) (get_or pic i 0)) → z.len ≤ y.len + 32 → pen₁ ≡ pen_after w pen (i / w) (i % w) (rendition_of (get_or pic i 0)) →
    Going w pic all x i screen pen y → Going w pic all x (i + 1) (set screen i (get_or pic i 0)) pen₁ z
turn_sent {w} {pic} {all} {x} {i} {screen} {pen} {pen₁} {y} {z} l d h a b e g =
    let m = g.most in
    let n = g.long in
    record {
      on = rw e (sym (goes_on w (length x.bytes.now) i pic _ _ l (cell_sent w (length x.bytes.now) i (get_or pic i 0) screen pen y.len z.len y.bytes.now z.bytes.now (omega arith) d (omega arith) a.added)) ∙ g.on);
      kept = kept_on x.bytes.now a.added g.kept;
      most = omega arith;
      long = a.long ∙ n;
      same_row = a.same_row ∙ g.same_row;
    }

pub drew : {w : ℕ} {pic scr₁ : List ℕ} {pen₁ : Pen} {x y : Buffer} {i : ℕ} (h : ℕ) (scr : List ℕ) (pen : Pen) → length scr ≡ h * w → length pic ≡ h * w → length pic ≤ i →
    Going w pic (drawn_from w (length x.bytes.now) pic 0 (at_start scr pen)) x i scr₁ pen₁ y → Drew (drawn w h pic (length x.bytes.now) scr pen) scr₁ pen₁ y.len x.bytes.now y.bytes.now
unfolding drawn drawn_from
drew {w} {pic} {scr₁} {pen₁} {x} {y} {i} h scr pen a b l g =
    let f = at_drop_all (λ (ps : List ℕ). drawn_from w (length x.bytes.now) ps i (state scr₁ pen₁ y.len y.bytes.now)) pic i l in
    done _ scr₁ pen₁ y.len x.bytes.now y.bytes.now (rw (eq-eqb (length scr) (h * w) a, eq-eqb (length pic) (h * w) b) (sym f ∙ g.on)) g.kept g.most g.long
