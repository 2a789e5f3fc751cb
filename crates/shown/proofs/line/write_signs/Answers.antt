use Rattle.shown.proofs.Rows.{signs_room, signs_more}
use Rattle.shown.proofs.line.write_signs.Goals as goal

pub loop-cell-preserved : goal.loop-cell-preserved
loop-cell-preserved c =
    let room = signs_room c.args.row.now c.loop-cell.cell-index c.loop-cell.invariant c.requires c.loop-cell-test.true in
    signs_more c.args.row.now c.loop-cell.cell-index c.loop-cell.invariant c.loop-cell-test.true c.sign_shown.ensures (c.push.ensures.added room)
