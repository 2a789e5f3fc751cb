-- One go counted: bytes for the cells that become right, never more than there is room for, and some while something differs.
use Rattle.std.proofs.Common.{◌≡◌, ℕ, zero, suc, ◌+◌, ◌-◌, ◌*◌, ◌/◌, ◌%◌, ◌<◌, ◌≤◌, true, false, eqb, ◌⊎◌, List, [], ◌∷◌, length, get_or, drop, set, sym, refl, ap, ◌∙◌, inl, inr, arith, length-append, length-set}
use Rattle.std.proofs.lemmas.List.{drop_more, length-drop}
use Rattle.std.proofs.lemmas.Bool.{and_parts, eqb-true, eq-eqb, cases_Bool, leb-true, le-leb}
use Rattle.meaning.specs.Laws.{fine_cell}
use Rattle.grid.specs.Cells.{unpacked}
use Rattle.render.specs.Draw.{Go, drawn, drawn_from, drawn_cell, at_start, cell_bytes}
use Rattle.render.specs.declared.pen.Pen.{Pen}
use Rattle.render_law.specs.Law.{differing, all_fine, all_bytes}
use Rattle.render_law.proofs.Sequences.{every_append}
use Rattle.render_law.proofs.Cells.{place_of, cell_small, cell_some}
use Rattle.render_law.proofs.Sends.{cell_cases, drawn_is}

differing_set : (xs ps : List ℕ) (i : ℕ) → i < length xs → i < length ps → eqb (get_or xs i 0) (get_or ps i 0) ≡ false
    → suc (differing (set xs i (get_or ps i 0)) ps) ≡ differing xs ps
unfolding differing
differing_set [] ps i h k e = absurd (omega arith)
differing_set (x ∷ xs) [] i h k e = absurd (omega arith)
differing_set (x ∷ xs) (p ∷ ps) zero h k e = rw (e, eq-eqb p p refl) (omega arith)
differing_set (x ∷ xs) (p ∷ ps) (suc i) h k e = let z = differing_set xs ps i (omega arith) (omega arith) e in omega arith

pub differing_none : (xs ps : List ℕ) → length xs ≡ length ps → differing xs ps ≡ 0 → xs ≡ ps
unfolding differing
differing_none [] [] l e = refl
differing_none [] (p ∷ ps) l e = absurd (omega arith)
differing_none (x ∷ xs) [] l e = absurd (omega arith)
differing_none (x ∷ xs) (p ∷ ps) l e = go (cases_Bool (eqb x p)) (λ (k : differing xs ps ≡ 0). differing_none xs ps (omega arith) k)
  where
    go : (eqb x p ≡ true) ⊎ (eqb x p ≡ false) → (differing xs ps ≡ 0 → xs ≡ ps) → x ∷ xs ≡ p ∷ ps
    go (inl a) f = let b = f (let z : 0 + differing xs ps ≡ 0 = rw a at e in omega arith) in let c = eqb-true x p a in cc
    go (inr a) f = absurd (let z : 1 + differing xs ps ≡ 0 = rw a at e in omega arith)

-- the rest of the picture, one cell on
rest_on : (pic : List ℕ) (i p : ℕ) (ps : List ℕ) → drop i pic ≡ p ∷ ps → (i < length pic) × (get_or pic i 0 ≡ p) × (drop (i + 1) pic ≡ ps)
rest_on pic i p ps e =
    let n : length pic - i ≡ suc (length ps) = sym (length-drop i pic) ∙ ap length e in
    let l : i < length pic = omega arith in
    let d = drop_more pic i 0 l in
    (l, cc, cc)

-- what holds of a go so far, that began with k differing cells
pub record Sofar (room : ℕ) (pic : List ℕ) (k : ℕ) (s : Go) : Type 0 where
  pub long : length s.screen ≡ length pic
  pub few : length s.bytes + 32 * differing s.screen pic ≤ 32 * k
  pub some : k ≤ length s.bytes + differing s.screen pic
  pub within : length s.bytes ≤ room
  pub bytes : all_bytes s.bytes ≡ true

cell_counts : (w h room i p k : ℕ) (pic : List ℕ) (s : Go) → 0 < w → w ≤ 200 → h ≤ 60 → i < h * w → fine_cell (unpacked p) ≡ true → i < length pic → get_or pic i 0 ≡ p
    → Sofar room pic k s → Sofar room pic k (drawn_cell w room i p s)
cell_counts w h room i p k pic s z a b l f j g o = cell_cases (Sofar room pic k) w room i p s o (λ x y.
    let at = place_of w h i z l in
    let r = at.0 in
    let c = at.1 in
    let n = o.long in
    let fw = o.few in
    let sm = o.some in
    let y₁ = leb-true (length s.bytes + 32) room y in
    let m = cell_small s.pen (i / w) (i % w) p (omega arith) (omega arith) f in
    let e = length-append s.bytes (cell_bytes s.pen (i / w) (i % w) p) in
    let u : suc (differing (set s.screen i p) pic) ≡ differing s.screen pic =
    (rw g at (differing_set s.screen pic i (omega arith) j (rw (sym g) at x))) in
    record {
      long = length-set s.screen i p ∙ n;
      few = omega arith;
      some = omega arith;
      within = omega arith;
      bytes = every_append _ s.bytes _ o.bytes m.bytes;
    })

cells_count : (w h room i k : ℕ) (pic ps : List ℕ) (s : Go) → 0 < w → w ≤ 200 → h ≤ 60 → length pic ≡ h * w → all_fine ps ≡ true → drop i pic ≡ ps
    → Sofar room pic k s → Sofar room pic k (drawn_from w room ps i s)
unfolding drawn_from
cells_count w h room i k pic [] s z a b n f d o = o
cells_count w h room i k pic (p ∷ ps) s z a b n f d o =
    let q = and_parts (fine_cell (unpacked p)) _ f in
    let r = rest_on pic i p ps d in
    let l = r.0 in
    cells_count w h room (i + 1) k pic ps (drawn_cell w room i p s) z a b n q.1 r.2 (cell_counts w h room i p k pic s z a b (omega arith) q.0 l r.1 o)

-- a cell that is right is left as it is
cell_right : (w room i p : ℕ) (s : Go) → eqb (get_or s.screen i 0) p ≡ true → drawn_cell w room i p s ≡ s
unfolding drawn_cell
cell_right w room i p s x = rw x

cell_sends : (w room i p : ℕ) (s : Go) → eqb (get_or s.screen i 0) p ≡ false → length s.bytes + 32 ≤ room → 0 < length (drawn_cell w room i p s).bytes
unfolding drawn_cell
cell_sends w room i p s x y =
    let e = length-append s.bytes (cell_bytes s.pen (i / w) (i % w) p) in
    let m = cell_some s.pen (i / w) (i % w) p in
    rw (x, le-leb (length s.bytes + 32) room y) (omega arith)

-- what has been sent stays sent
still_sent : (w room i : ℕ) (ps : List ℕ) (s : Go) → 0 < length s.bytes → 0 < length (drawn_from w room ps i s).bytes
unfolding drawn_from
still_sent w room i [] s l = l
still_sent w room i (p ∷ ps) s l =
    still_sent w room (i + 1) ps (drawn_cell w room i p s) (cell_cases (λ t. 0 < length t.bytes) w room i p s l (λ _ _.
    let e = length-append s.bytes (cell_bytes s.pen (i / w) (i % w) p) in omega arith))

-- the first cell that differs is sent
differing_sends : (w room i : ℕ) (xs ps : List ℕ) (s : Go) → drop i s.screen ≡ xs → length s.bytes + 32 ≤ room → 0 < differing xs ps
    → 0 < length (drawn_from w room ps i s).bytes
unfolding drawn_from differing
differing_sends w room i [] ps s d m l = absurd (omega arith)
differing_sends w room i (x ∷ xs) [] s d m l = absurd (omega arith)
differing_sends w room i (x ∷ xs) (p ∷ ps) s d m l =
    let r = rest_on s.screen i x xs d in
    go (cases_Bool (eqb x p)) r.1 (λ (k : 0 < differing xs ps). differing_sends w room (i + 1) xs ps s r.2 m k)
  where
    go : (eqb x p ≡ true) ⊎ (eqb x p ≡ false) → get_or s.screen i 0 ≡ x → (0 < differing xs ps → 0 < length (drawn_from w room ps (i + 1) s).bytes)
        → 0 < length (drawn_from w room ps (i + 1) (drawn_cell w room i p s)).bytes
    go (inl a) g f = rw (cell_right w room i p s (rw g a)) (f (let z : 0 < 0 + differing xs ps = rw a at l in omega arith))
    go (inr a) g f = still_sent w room (i + 1) ps (drawn_cell w room i p s) (cell_sends w room i p s (rw g a) m)

-- and nothing where nothing differs
right_stays : (w room i : ℕ) (xs ps : List ℕ) (s : Go) → drop i s.screen ≡ xs → length xs ≡ length ps → differing xs ps ≡ 0 → drawn_from w room ps i s ≡ s
unfolding drawn_from differing
right_stays w room i xs [] s d l e = refl
right_stays w room i [] (p ∷ ps) s d l e = absurd (omega arith)
right_stays w room i (x ∷ xs) (p ∷ ps) s d l e =
    let r = rest_on s.screen i x xs d in
    go (cases_Bool (eqb x p)) r.1 (λ (k : differing xs ps ≡ 0). right_stays w room (i + 1) xs ps s r.2 (omega arith) k)
  where
    go : (eqb x p ≡ true) ⊎ (eqb x p ≡ false) → get_or s.screen i 0 ≡ x → (differing xs ps ≡ 0 → drawn_from w room ps (i + 1) s ≡ s)
        → drawn_from w room ps (i + 1) (drawn_cell w room i p s) ≡ s
    go (inl a) g f = rw (cell_right w room i p s (rw g a)) (f (let z : 0 + differing xs ps ≡ 0 = rw a at e in omega arith))
    go (inr a) g f = absurd (let z : 1 + differing xs ps ≡ 0 = rw a at e in omega arith)

module _ (w h room : ℕ) (pic screen : List ℕ) (pen : Pen) (n : length screen ≡ h * w) (l : length pic ≡ h * w) where
  pub drawn_counts : 0 < w → w ≤ 200 → h ≤ 60 → all_fine pic ≡ true → Sofar room pic (differing screen pic) (drawn w h pic room screen pen)
  drawn_counts z a b f =
      let o : Sofar room pic (differing screen pic) (at_start screen pen) =
      record { long = n ∙ sym l; few = omega arith; some = omega arith; within = omega arith; bytes = refl } in
      rw (drawn_is w h room pic screen pen n l) (cells_count w h room 0 (differing screen pic) pic pic (at_start screen pen) z a b l f refl o)

  pub drawn_sends : 32 ≤ room → 0 < differing screen pic → 0 < length (drawn w h pic room screen pen).bytes
  drawn_sends m d = rw (drawn_is w h room pic screen pen n l) (differing_sends w room 0 screen pic (at_start screen pen) refl (omega arith) d)

  pub drawn_stays : differing screen pic ≡ 0 → drawn w h pic room screen pen ≡ at_start screen pen
  drawn_stays d = drawn_is w h room pic screen pen n l ∙ right_stays w room 0 screen pic (at_start screen pen) refl (n ∙ sym l) d
