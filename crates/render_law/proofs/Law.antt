-- The writer's law, put together.
use Rattle.std.proofs.Common.{◌≡◌, ℕ, true, List, refl}
use Rattle.meaning.specs.Laws.{fine_cell}
use Rattle.grid.specs.Cells.{unpacked}
use Rattle.grid.proofs.Regions.{rows_replicate}
use Rattle.render.specs.Draw.{drawn}
use Rattle.render.specs.declared.pen.Pen.{Pen}
use Rattle.render_law.specs.Law.{all_fine, WriterLaw}
use Rattle.render_law.proofs.Goes.{drawn_goes}
use Rattle.render_law.proofs.Counts.{differing_none, drawn_counts, drawn_sends, drawn_stays}
use Rattle.render_law.proofs.Flat.{differs_rows, fine_rows}
use Rattle.render_law.proofs.Keeps.{drawn_all_keeps}
use Rattle.render_law.proofs.Closes.{finished_closes, finished_fits}

pub writer_law : WriterLaw
writer_law = record {
  draws = λ w h room pic screen pen z a b n l f.
      let c = drawn_counts w h room pic screen pen n l z a b f in
      record {
        goes = drawn_goes w h room pic screen pen z a b f;
        few = c.few;
        on = drawn_sends w h room pic screen pen n l;
        still = drawn_stays w h room pic screen pen n l;
        within = c.within;
        bytes = c.bytes;
      };
  keeps = drawn_all_keeps;
  closes = finished_closes;
  close_fits = finished_fits;
  begins = λ w h. rw (rows_replicate w h);
  flat = differs_rows;
  same = differing_none;
  fine = fine_rows;
}

-- of what can be drawn a go makes what can be drawn
pub drawn_fine : (w h room : ℕ) (pic screen : List ℕ) (pen : Pen) → all_fine screen ≡ true → all_fine pic ≡ true → all_fine (drawn w h pic room screen pen).screen ≡ true
drawn_fine w h room pic screen pen a b = (writer_law.keeps w h room pic screen pen).cells (λ x. fine_cell (unpacked x)) refl a b
