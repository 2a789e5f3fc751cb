use Rattle.stored.proofs.many_refuses_stands.Goals as goal
use Rattle.stored.proofs.Accepted.{many_refuses}

pub returns : goal.returns
returns c = many_refuses
