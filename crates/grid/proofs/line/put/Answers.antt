use Rattle.std.proofs.Common.{arith, rules}
use Rattle.std.proofs.lemmas.Bool.Decides.{nat_tests}
use Rattle.grid.proofs.Parts.{rows_put}
use Rattle.grid.proofs.line.put.Goals as goal

pub returns : goal.returns
returns c = record { told = grind (arith, nat_tests); done = λ _. rows_put _ _ _ _ _ _ (omega arith); kept = λ e. absurd (search rules) }
