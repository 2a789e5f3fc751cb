use Rattle.std.proofs.Common.{◌∙◌, arith, rules}
use Rattle.std.proofs.lemmas.Bool.Decides.{nat_tests}
use Rattle.layout.proofs.Picture.{pictured, no_rows}
use Rattle.layout.proofs.pane.draw_pane.Goals as goal
use Rattle.layout.proofs.pane.draw_pane.Goals.{in-Some, in_default}

pub returns : goal.returns
returns c =
    let m = c.split_at_mut-rows in
    let a = m.ensures.front_len in
    let b = m.ensures.back_len in
    let d = c.match-new.auto.rows in
    let s = c.draw_status.auto.row in
    let l = c.if-picture-cells.false ∙ c.cells.ensures.0 in
    pictured _ _ _ _ _ c.match-new.rows c.draw_status.new.row _ (omega arith) l (c.if-cells.false ∙ c.cells-else-picture-cells.ensures.0) (omega arith) (omega arith)
    (elim c.match-new.branch [ in-Some w ↦ search rules | in_default w ↦ (let z = w.in_default in let q = w.rows-is in no_rows _ _ _ _ (grind (arith, nat_tests))) ])
    (search rules)
