use Rattle.output.proofs.Adding.{both}
use Rattle.shown.proofs.Rows.{text_ends, signs_end}
use Rattle.shown.proofs.line.write_row.Goals as goal

pub returns-clause-added : goal.returns-clause-added
returns-clause-added c =
    let e = c.row_end.ensures in
    let s = c.write_signs.ensures in
    rw (text_ends c.args.row.now c.row_end.result e.within e.blank e.full) (both s (c.push.ensures.added (signs_end _ s e.within c.requires)))
