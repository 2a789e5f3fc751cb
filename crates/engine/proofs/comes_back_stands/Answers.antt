use Rattle.engine.proofs.comes_back_stands.Goals as goal
use Rattle.engine.proofs.Whole.{comes_back}

pub returns : goal.returns
returns c = comes_back
