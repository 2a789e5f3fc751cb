use Rattle.std.proofs.Common.{ℕ, ◌+◌, ◌*◌, [], sym, refl, ap, ◌∙◌, arith}
use Rattle.meaning.specs.Screen.{fitted}
use Rattle.terminal.specs.Terms.{term_on}
use Rattle.engine.specs.Areas.{part}
use Rattle.engine.proofs.Maps.{placed}
use Rattle.machine.specs.States.{terminal_in}
use Rattle.turns.proofs.Going.{stored_done}
use Rattle.live.proofs.Looking.{other_does}
use Rattle.live.proofs.sizes.resize_pane.Goals as goal

pub returns : goal.returns
returns c = λ ys.
    let m = c.args.memory.now in
    let p = c.args.p in
    let t = p.terminal in
    let f = c.fit.ensures in
    let w = c.place_of-place.ensures.wide in
    let h = c.place_of-place.ensures.high in
    let n = t.size.high * t.size.wide in
    other_does c.args.x c.looked_at.result c.args.size p _ m _ c.clear_view.new.memory c.store.new.memory f.cells ys c.pane_and_size.result c.told-memory c.requires.pane c.requires.other c.looked_at.ensures refl
    f.memory c.clear_view.ensures (stored_done c.looked_at.result c.clear_view.new.memory _ _ c.store.ensures (omega arith))
    (f.long ∙ sym (λ i. f.high i * f.wide i))
    (f.done [] ∙ (ap (λ (j : ℕ). fitted (term_on t (part m j n) []) c.place_of-place.result.wide c.place_of-place.result.high) (sym placed.cells) ∙ (λ i. fitted (terminal_in t m) (w i) (h i))))
    (c.pane_and_size.ensures ∙ (λ i. 65536 * p.id + 256 * w i + h i))
