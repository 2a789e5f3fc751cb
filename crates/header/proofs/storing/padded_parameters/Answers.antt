use Rattle.std.proofs.Common.{arith}
use Rattle.header.proofs.Parameters.{padded_more}
use Rattle.header.proofs.storing.padded_parameters.Goals as goal

pub loop-k-preserved : goal.loop-k-preserved
loop-k-preserved c = rw (c.loop-k.invariant, c.from.ensures) (padded_more _ c.loop-k.k (omega arith) (omega arith))
