use Rattle.std.proofs.Common.{◌&&◌, eqb, sym, ◌∙◌}
use Rattle.live.proofs.Looking.{same_does}
use Rattle.live.proofs.sizes.attach_again.Goals as goal

pub returns-then-eq : goal.returns-then-eq
returns-then-eq c =
    let s = c.args.p.terminal.size in
    let w = c.place_of.ensures.wide in
    let h = c.place_of.ensures.high in
    same_does c.args.x c.looked_at.result c.args.size c.args.p c.args.memory.now c.clear_view.new.memory c.advance.new.memory _ _ _ c.told-memory c.requires
    (sym (λ i. eqb s.wide (w i) && eqb s.high (h i)) ∙ (sym c.eq.ensures ∙ c.if-eq.true)) c.looked_at.ensures c.clear_view.ensures c.advance.ensures.does

pub returns : goal.returns
returns c = c.resize_pane.ensures c.args.out.now
