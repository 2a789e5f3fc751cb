use Rattle.engine.proofs.steady_stands.Goals as goal
use Rattle.engine.proofs.Steady.{steady}

pub returns : goal.returns
returns c = steady
