-- One go as the viewer's terminal sees it: what it is modelled to show is what it shows.
use Rattle.std.proofs.Common.{◌≡◌, ℕ, ◌*◌, ◌<◌, ◌≤◌, true, List, refl, ◌∙◌}
use Rattle.meaning.specs.Screen.{Term}
use Rattle.meaning.specs.Bytes.{written}
use Rattle.meaning.specs.Laws.{fine_cell}
use Rattle.grid.specs.Cells.{unpacked}
use Rattle.render.specs.Draw.{Go, drawn}
use Rattle.render.specs.declared.pen.Pen.{Pen}
use Rattle.render_law.specs.View.{viewer}
use Rattle.render_law.specs.Law.{all_fine}
use Rattle.render_law.proofs.Sequences.{then_part}
use Rattle.render_law.proofs.Cells.{written_cell}
use Rattle.render_law.proofs.Sends.{drawn_keeps}

abbrev Shown : ℕ → ℕ → Term → Go → Type 0
Shown w h t s = written t s.bytes ≡ viewer w h s.screen s.pen

pub drawn_goes : (w h room : ℕ) (pic screen : List ℕ) (pen : Pen) → 0 < w → w ≤ 200 → h ≤ 60 → all_fine pic ≡ true
    → Shown w h (viewer w h screen pen) (drawn w h pic room screen pen)
unfolding written
drawn_goes w h room pic screen pen z a b f =
    drawn_keeps (Shown w h (viewer w h screen pen)) (λ p. fine_cell (unpacked p)) w room (h * w)
    (λ i p s l e q. then_part (viewer w h screen pen) _ s.bytes _ q ∙ written_cell w h i p s.screen s.pen z a b l e) h pic screen pen refl f refl
