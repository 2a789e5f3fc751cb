use Rattle.std.proofs.Common.{◌∙◌}
use Rattle.turns.proofs.Lent.{few_cells}
use Rattle.live.proofs.Sized.{fit_done, copied_cells, lent_long}
use Rattle.live.proofs.sizes.fit.Goals as goal

pub returns : goal.returns
returns c =
    let t = c.args.terminal.now in
    let m = c.args.memory.now in
    let s = c.args.size in
    let e = c.cells-n.ensures.0 in
    let l = lent_long m s c.cells-n.result c.told-memory e in
    fit_done t m _ _ s c.cells-n.result c.resize.result c.resize.new.self c.resize.new.new c.told-memory e
    (copied_cells m c.copy_from_slice.new.self _ _ c.cells-k.result c.told-memory c.cells-k.ensures.0 (few_cells t.size) c.copy_from_slice.ensures.after)
    l (c.resize.auto.new ∙ l) c.resize.ensures
