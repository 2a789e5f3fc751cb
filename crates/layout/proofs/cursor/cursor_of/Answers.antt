use Rattle.std.proofs.Common.{arith}
use Rattle.std.proofs.lemmas.Bool.Decides.{nat_tests}
use Rattle.layout.proofs.Spots.{spot_seen, spot_hidden}
use Rattle.layout.proofs.cursor.cursor_of.Goals as goal

pub returns-then-col-size : goal.returns-then-col-size
returns-then-col-size c = λ rs a i n p. spot_seen _ _ i n _ p (grind (arith, nat_tests)) (omega arith) (omega arith)

pub returns-else-pane : goal.returns-else-pane
returns-else-pane c = λ rs a i n p. spot_hidden _ _ i n _ p (grind (arith, nat_tests))
