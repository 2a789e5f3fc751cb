use Rattle.engine.proofs.whole_core_stands.Goals as goal
use Rattle.engine.proofs.Whole.{whole_core}

pub returns : goal.returns
returns c = whole_core
