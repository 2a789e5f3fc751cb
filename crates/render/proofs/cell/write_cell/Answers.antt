use Rattle.std.proofs.Common.{rules, arith}
use Rattle.output.proofs.Adding.{both}
use Rattle.render.specs.Draw.{cell_bytes}
use Rattle.render.proofs.cell.write_cell.Goals as goal

pub returns-clause-added : goal.returns-clause-added
unfolding cell_bytes
returns-clause-added c =
    let p = c.push.ensures.added (omega arith) in
    both c.move_to.ensures.added (both (search rules) p)
