use Rattle.std.proofs.Common.{rules, length-append, arith}
use Rattle.shown.proofs.Rows.{rows_more, rows_all}
use Rattle.shown.proofs.line.write_rows.Goals as goal

pub loop-row-preserved : goal.loop-row-preserved
loop-row-preserved c =
    let r = c.loop-row.invariant.2 in
    let s = c.in-Some.ensures.steps in
    (search rules, search rules, simp length-append (rows_more r (omega arith) c.requires.cells c.in-Some.row.now s.1.0 s.1.1 s.0 (omega arith) c.write_row.ensures.added c.write_row.ensures.most))

pub returns-clause-added : goal.returns-clause-added
returns-clause-added c =
    let s = c.in-None.ensures.steps in
    rows_all c.loop-row.invariant.2 (omega arith) c.requires.cells s.1.0
