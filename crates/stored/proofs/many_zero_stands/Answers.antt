use Rattle.stored.proofs.many_zero_stands.Goals as goal
use Rattle.stored.proofs.Fit.{many_zero}

pub returns : goal.returns
returns c = many_zero
