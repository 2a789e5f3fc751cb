-- What can be kept: sound screens whose cells can be drawn, as they come up and at any time later; a view; and the glass at first.
use Rattle.std.proofs.Common.{◌≡◌, ℕ, ◌*◌, ◌^◌, ◌<◌, ◌≤◌, [], length, sym, refl, ap, ◌∙◌, arith}
use Rattle.meaning.specs.Screen.{fresh}
use Rattle.meaning.specs.Panes.{Glass, Pane, at_first}
use Rattle.meaning.proofs.Sound.{Sound, sound_fresh}
use Rattle.meaning.proofs.Drawable.{Fine, fine_fresh}
use Rattle.meaning.proofs.Small.{fine_style_small}
use Rattle.grid.specs.Cells.{rows_of, cells_of}
use Rattle.render_law.proofs.Rows.{rows_of_cells, length_cells}
use Rattle.engine.specs.State.{View, state, fresh_view}
use Rattle.engine.proofs.Machine.{Viewed}
use Rattle.engine.proofs.Pictures.{small_cells, every_fine}
use Rattle.engine.proofs.Good.{Reads, short_fits, fresh_viewed}
use Rattle.stored.specs.Laws.{PaneKept, ViewKept, Storable}

pub pane_kept : (w h : ℕ) (p : Pane) → 0 < w → w ≤ 200 → 0 < h → h ≤ 60 → Sound w h p.term → Fine p.term → Reads p.term → p.term.answer ≡ [] → p.id < 2 ^ 47 → PaneKept p
pane_kept w h p some_wide wide some_high high s f r e n =
    let t = p.term in
    let iw = s.is_wide in
    let ih = s.is_high in
    let a = fine_style_small t.style f.writes in
    let b = fine_style_small t.saved.style f.saves in
    let on_row = s.on_row in let on_col = s.on_col in let inside = s.inside in
    let l : length t.rows ≡ t.high = s.as_high ∙ sym ih in
    record {
      number = n;
      range = record {
        some_wide = omega arith;
        narrow = omega arith;
        some_high = omega arith;
        low = omega arith;
        on_row = omega arith;
        on_col = omega arith;
        ordered = s.ordered;
        inside = omega arith;
        writes = (a.marks, a.fore, a.back);
        saved_row = r.saved_row;
        saved_col = r.saved_col;
        saves = (b.marks, b.fore, b.back);
        reads = short_fits t.reading r.short;
      };
      silent = e;
      long = length_cells t.wide t.rows (rw iw s.as_wide) ∙ ap (λ (k : ℕ). k * t.wide) l;
      rows = ap (λ (k : ℕ). rows_of t.wide k (cells_of t.rows)) (sym l) ∙ rows_of_cells t.wide t.rows (rw iw s.as_wide) (every_fine t.rows f.cells);
      small = small_cells t.rows f.cells;
    }

-- a pane as it comes up
pub fresh_kept : (w h i : ℕ) → 0 < w → w ≤ 200 → 0 < h → h ≤ 60 → i < 2 ^ 47 → PaneKept (record { id = i; term = fresh w h })
fresh_kept w h i a b c d n =
    pane_kept w h (record { id = i; term = fresh w h }) a b c d (sound_fresh w h (omega arith) (omega arith)) (fine_fresh w h)
    (record { writes = tt; saves = tt; saved_row = omega arith; saved_col = omega arith; short = tt }) refl n

pub view_kept : (g : Glass) (v : View) → Viewed g v → ViewKept g v
view_kept g v o = record { is_wide = o.is_wide; is_high = o.is_high; long = o.long; small = o.small; pen = o.pen }

pub first_kept : Storable (state at_first (fresh_view 1 1))
first_kept = record {
  glass = record {
    some_wide = omega arith;
    wide = omega arith;
    some_high = omega arith;
    high = omega arith;
    at = omega arith;
    next = omega arith;
    few_windows = omega arith;
    few_places = omega arith;
    few_panes = omega arith;
    windows = tt;
    panes = tt;
    few_cells = omega arith;
  };
  view = view_kept at_first (fresh_view 1 1) (fresh_viewed at_first 1 1 refl refl (omega arith) (omega arith));
}
