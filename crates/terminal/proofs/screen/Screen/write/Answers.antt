use Rattle.std.proofs.Common.{arith}
use Rattle.terminal.proofs.Feeding.{feeding_more, feeding_all}
use Rattle.terminal.proofs.screen.Screen.write.Goals as goal

pub loop-b-preserved : goal.loop-b-preserved
loop-b-preserved c = feeding_more _ _ _ _ _ c.loop-b.invariant c.loop-b-test.true c.feed_byte.ensures

pub returns-clause-says : goal.returns-clause-says
returns-clause-says c = feeding_all _ _ _ _ c.loop-b.invariant (omega arith)
