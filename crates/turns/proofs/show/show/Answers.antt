use Rattle.std.proofs.Common.{◌≡◌, ◌*◌, true, length, sym, refl, ap, ◌∙◌, arith, length-take}
use Rattle.engine.specs.State.{looks}
use Rattle.machine.specs.States.{glass_of}
use Rattle.machine.specs.declared.state.Machine.{Machine}
use Rattle.meaning.specs.Panes.{Glass}
use Rattle.meaning.specs.Picture.{picture}
use Rattle.grid.specs.Cells.{cells_of}
use Rattle.turns.proofs.Lent.{few_cells}
use Rattle.turns.proofs.Going.{glass_is, stored_done}
use Rattle.turns.proofs.Drawing.{draw_sent, draw_writes, draw_closes}
use Rattle.turns.proofs.show.show.Goals as goal

pub returns-then-n-gt0 : goal.returns-then-n-gt0
returns-then-n-gt0 c =
    let x = c.args.x in
    let m = c.args.memory.now in
    let l : looks (glass_of x m) ≡ true = ap looks (sym (glass_is x c.args.p m c.requires.pane c.requires.looked)) in
    let s = draw_sent x c.args.p m _ _ _ _ _ _ c.requires.pane c.requires.looked c.draw_picture.ensures c.send_cells-n.ensures in
    let y : Machine = record x { pen = c.send_cells-n.new.pen } in
    draw_writes x y m _ _ _ _ _ c.told-memory l s c.if-n-gt0.true refl refl (stored_done _ _ _ _ c.store.ensures c.send_cells-n.array_long)

pub returns : goal.returns
returns c =
    let x = c.args.x in
    let p = c.args.p in
    let m = c.args.memory.now in
    let f = few_cells x.size in
    let l : looks (glass_of x m) ≡ true = ap looks (sym (glass_is x p m c.requires.pane c.requires.looked)) in
    let s = draw_sent x p m _ _ _ _ _ _ c.requires.pane c.requires.looked c.draw_picture.ensures c.send_cells-n.ensures in
    let r = c.draw_picture.array_long in
    let k : length (cells_of (picture (glass_of x m))) ≡ x.size.high * x.size.wide =
    ap (λ (g : Glass). length (cells_of (picture g))) (sym (glass_is x p m c.requires.pane c.requires.looked))
    ∙ (sym (ap length (c.draw_picture.ensures p.id x.next x.prefix)) ∙ (length-take _ c.draw_picture.new.row ∙ omega arith)) in
    draw_closes x m _ _ _ _ _ _ _ _ c.told-memory l k s (omega arith) c.close.ensures
