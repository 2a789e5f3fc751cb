use Rattle.std.proofs.Common.{[], arith}
use Rattle.std.proofs.lemmas.Bool.Decides.{nat_tests}
use Rattle.terminal.proofs.state.Terminal.device_status.Goals as goal

pub returns-in-6 : goal.returns-in-6
returns-in-6 c =
    let p = c.report_position.ensures.added [] [] in
    record {
      term = λ xs. (let q = (c.report_position.ensures.added xs []).added.said in grind (arith, nat_tests));
      answer = record { least = omega (arith, p.added.far); few = c.report_position.ensures.most; kept = p.added.kept; long = p.long; same_row = p.same_row };
    }
