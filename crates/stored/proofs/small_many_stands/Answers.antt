use Rattle.stored.proofs.small_many_stands.Goals as goal
use Rattle.stored.proofs.Fit.{small_many}

pub returns : goal.returns
returns c = small_many
