-- Every screen that can be drawn is reached from a fresh one, by goes of 32 bytes: from the writer's law alone.
use Rattle.std.proofs.Common.{◌≡◌, ℕ, zero, suc, ◌*◌, ◌<◌, ◌≤◌, true, List, [], ◌++◌, length, replicate, sym, ap, ◌∙◌, inl, inr, arith, length-append}
use lib.ListN.{length-replicate}
use Rattle.std.proofs.lemmas.Bool.{cases_lt}
use Rattle.meaning.specs.Words.{every}
use Rattle.meaning.specs.Screen.{Term, fresh}
use Rattle.meaning.specs.Bytes.{written}
use Rattle.meaning.specs.Picture.{differs}
use Rattle.meaning.specs.Laws.{drawable, fine_cell, Drawn}
use Rattle.meaning.proofs.Sound.{good_sound}
use Rattle.grid.specs.Cells.{rows_of, cells_of, blank_number}
use Rattle.render.specs.Pens.{fresh_pen}
use Rattle.render.specs.Draw.{drawn}
use Rattle.render.specs.declared.pen.Pen.{Pen}
use Rattle.render_law.specs.View.{viewer}
use Rattle.render_law.specs.Law.{differing, all_fine}
use Rattle.render_law.proofs.Sequences.{then_part}
use Rattle.render_law.proofs.Law.{writer_law}
use Rattle.render_law.proofs.Rows.{rows_of_cells, length_cells}

-- bytes after which the terminal shows the picture
record Reached (w h : ℕ) (pic : List ℕ) (t : Term) (k : ℕ) : Type 0 where
  bytes : List ℕ
  pen : Pen
  goes : written t bytes ≡ viewer w h pic pen
  few : length bytes ≤ 32 * k

module _ (w h : ℕ) (pic : List ℕ) (z : 0 < w) (a : w ≤ 200) (b : h ≤ 60) (l : length pic ≡ h * w) (f : all_fine pic ≡ true) where
  there : (screen : List ℕ) (pen : Pen) → length screen ≡ h * w → differing screen pic ≡ 0 → Reached w h pic (viewer w h screen pen) (differing screen pic)
  unfolding written
  there screen pen n e =
      record { bytes = []; pen = pen; goes = ap (λ (x : List ℕ). viewer w h x pen) (writer_law.same screen pic (n ∙ sym l) e); few = omega arith }

  reached : (k : ℕ) (screen : List ℕ) (pen : Pen) → length screen ≡ h * w → differing screen pic ≤ k → Reached w h pic (viewer w h screen pen) (differing screen pic)
  reached zero screen pen n m = there screen pen n (omega arith)
  reached (suc k) screen pen n m = elim (cases_lt 0 (differing screen pic)) [
    | inl p ↦
        let d = writer_law.draws w h 32 pic screen pen z a b n l f in
        let s = drawn w h pic 32 screen pen in
        let on = d.on (omega arith) p in
        let few = d.few in
        let r = reached k s.screen s.pen ((writer_law.keeps w h 32 pic screen pen).long ∙ n) (omega arith) in
        let more = r.few in
        let e = length-append s.bytes r.bytes in
        record { bytes = s.bytes ++ r.bytes; pen = r.pen; goes = then_part (viewer w h screen pen) _ s.bytes r.bytes d.goes ∙ r.goes; few = omega arith }
    | inr p ↦ there screen pen n (omega arith)
  ]

pub every_drawn : Drawn
unfolding drawable
every_drawn t g d a b =
    let s = good_sound t g in
    let w = t.wide in
    let h = t.high in
    let pic = cells_of t.rows in
    let blanks = replicate (h * w) blank_number in
    let k : length t.rows ≡ h = s.as_high in
    let l : length pic ≡ h * w = length_cells w t.rows s.as_wide ∙ ap (λ (x : ℕ). x * w) k in
    let n : length blanks ≡ h * w = length-replicate (h * w) blank_number in
    let rows : rows_of w h pic ≡ t.rows = ap (λ (x : ℕ). rows_of w x pic) (sym k) ∙ rows_of_cells w t.rows s.as_wide d in
    let fine : all_fine pic ≡ true = writer_law.fine w h pic l (ap (every (λ r. every fine_cell r)) rows ∙ d) in
    let r = reached w h pic (let c = s.on_col in omega arith) a b l fine (differing blanks pic) blanks fresh_pen n (omega arith) in
    let begins = writer_law.begins w h in
    let same : differs (fresh w h).rows t.rows ≡ differing blanks pic =
    ap (λ (x : Term). differs x.rows t.rows) (sym begins) ∙ (ap (differs (rows_of w h blanks)) (sym rows) ∙ writer_law.flat w h blanks pic n l) in
    let few = r.few in
    (r.bytes, ap (λ (x : Term). (written x r.bytes).rows) (sym begins) ∙ (ap (λ (x : Term). x.rows) r.goes ∙ rows), omega arith)
