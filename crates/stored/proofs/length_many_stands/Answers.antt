use Rattle.stored.proofs.length_many_stands.Goals as goal
use Rattle.stored.proofs.Fit.{length_many}

pub returns : goal.returns
returns c = length_many
