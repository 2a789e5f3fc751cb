use Rattle.stored.proofs.many_fit_stands.Goals as goal
use Rattle.stored.proofs.Fit.{many_fit}

pub returns : goal.returns
returns c = many_fit
