use Rattle.stored.proofs.many_back_stands.Goals as goal
use Rattle.stored.proofs.Many.{many_back}

pub returns : goal.returns
returns c = many_back
