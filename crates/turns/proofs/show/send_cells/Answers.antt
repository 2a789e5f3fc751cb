use Rattle.std.proofs.Common.{◌≡◌, ◌+◌, ◌-◌, length, take, drop, ◌∙◌, arith, length-drop, length-take}
use Rattle.turns.proofs.Lent.{few_cells, sent_go}
use Rattle.turns.proofs.show.send_cells.Goals as goal

pub returns : goal.returns
returns c =
    let m = c.args.memory.now in
    let n = c.cells-n.result in
    let f = few_cells c.args.size in
    let a = c.cells-n.ensures.0 in
    let lo = c.told-out in
    let y : length (take ((2304 + n) - 2304) (drop 2304 m)) ≡ n = length-take ((2304 + n) - 2304) (drop 2304 m) ∙ (let d = length-drop 2304 m in omega arith) in
    sent_go c.args.size.wide c.args.size.high n c.args.row.now m c.args.out.now c.draw.new.screen c.draw.new.out c.args.pen.now c.draw.new.pen c.draw.result
    a (omega arith) (c.draw.auto.screen ∙ y) c.draw.ensures
