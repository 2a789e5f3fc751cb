use Rattle.std.proofs.Common.{◌≡◌, ◌+◌, ◌*◌, [], length, sym, refl, ap, ◌∙◌, arith}
use Rattle.meaning.specs.Screen.{fresh}
use Rattle.grid.specs.declared.size.Size.{Size}
use Rattle.machine.proofs.Stays.{lent_over}
use Rattle.turns.proofs.Going.{stored_next_done}
use Rattle.live.proofs.Sized.{lent_long}
use Rattle.live.proofs.Looking.{first_does}
use Rattle.live.proofs.sizes.attach_first.Goals as goal

pub returns : goal.returns
returns c = λ ys.
    let m = c.args.memory.now in
    let s = c.place_of-place.result in
    let n = c.cells-n.result in
    let t = c.unwrap-terminal.result in
    let cs = c.start.new.cells in
    let w = c.place_of-place.ensures.wide in
    let h = c.place_of-place.ensures.high in
    let e = rw c.unwrap-terminal.ensures at c.start.ensures in
    let lc : length cs ≡ n = c.start.auto.cells ∙ lent_long m s n c.told-memory c.cells-n.ensures.0 in
    first_does c.args.x c.looked_at-y.result c.args.size _ m _ c.clear_view.new.memory c.store_with_next.new.memory cs ys c.pane_and_size.result c.told-memory c.requires c.looked_at-y.ensures refl
    (lent_over m 38304 _ cs (omega arith)) c.clear_view.ensures (stored_next_done c.looked_at-y.result (c.args.x.next + 1) c.clear_view.new.memory _ _ c.store_with_next.ensures (omega arith))
    (lc ∙ (c.cells-n.ensures.0 ∙ sym (ap (λ (z : Size). z.high * z.wide) e.1)))
    (e.2 [] ∙ (λ i. fresh (w i) (h i)))
    (c.pane_and_size.ensures ∙ (λ i. 65536 * c.args.x.next + 256 * w i + h i))
