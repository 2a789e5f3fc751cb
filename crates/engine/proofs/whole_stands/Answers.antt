use Rattle.engine.proofs.whole_stands.Goals as goal
use Rattle.engine.proofs.Whole.{whole_detaching}

pub returns : goal.returns
returns c = whole_detaching
