use Rattle.std.proofs.Common.{[], rules, arith}
use Rattle.std.proofs.lemmas.Bool.Decides.{nat_tests}
use Rattle.output.proofs.Adding.{both}
use Rattle.shown.proofs.screen.write_screen.Goals as goal

pub returns : goal.returns
returns c =
    let all = both c.write_rows.ensures.added (c.write_cursor.ensures.added c.args.cells.now []) in
    let same = all.same_row in
    let said = all.added.said in
    let items = c.in_ok-extend_from_slice.ensures.items in
    (grind (arith, nat_tests), search rules)
