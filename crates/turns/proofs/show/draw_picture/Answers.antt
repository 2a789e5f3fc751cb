use Rattle.std.proofs.Common.{◌≡◌, ◌+◌, ◌-◌, ◌*◌, true, length, take, drop, sym, ap, ◌∙◌, arith, length-drop, length-take}
use Rattle.std.proofs.lemmas.List.{take_at}
use Rattle.std.proofs.lemmas.Bool.{and_from, eq-eqb}
use Rattle.grid.specs.Cells.{rows_of}
use Rattle.machine.specs.States.{terminal_in}
use Rattle.turns.proofs.Lent.{few_cells, lent_cells}
use Rattle.turns.proofs.show.draw_picture.Goals as goal

pub returns : goal.returns
returns c = λ i n p.
    let s = c.args.pane.now.size in
    let m = c.args.memory.now in
    let f = few_cells c.args.size in
    let g = few_cells s in
    let a = c.cells-n.ensures.0 in
    let b = c.cells-k.ensures.0 in
    let x : length (take (c.cells-n.result - 0) c.args.row.now) ≡ c.args.size.high * c.args.size.wide = length-take (c.cells-n.result - 0) c.args.row.now ∙ omega arith in
    let y : length (take ((38304 + c.cells-k.result) - 38304) (drop 38304 m)) ≡ s.high * s.wide =
    length-take ((38304 + c.cells-k.result) - 38304) (drop 38304 m) ∙ (let d = length-drop 38304 m in omega arith) in
    let t : c.draw_pane.result ≡ true = c.draw_pane.ensures.told ∙ and_from _ _ (eq-eqb _ _ x) (eq-eqb _ _ y) in
    let l = c.draw_pane.auto.picture in
    take_at c.draw_pane.new.picture _ _ (l ∙ x)
    ∙ c.draw_pane.ensures.numbers t i n (terminal_in c.args.pane.now m) p (ap (rows_of s.wide s.high) (sym (lent_cells m (s.high * s.wide) c.cells-k.result b)))
