use Rattle.std.proofs.Common.{arith}
use Rattle.std.proofs.lemmas.Bool.Decides.{nat_tests}
use Rattle.terminal.proofs.screen.Screen.read.Goals as goal

pub returns-in-Sequence : goal.returns-in-Sequence
returns-in-Sequence c =
    let r = c.sequence_byte.ensures in
    record { term = grind (arith, nat_tests); same_row = r.same_row; answer = r.answer; same_answer = r.same_answer }
