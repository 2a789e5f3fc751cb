use Rattle.watch.proofs.sight_stands.Goals as goal
use Rattle.watch.proofs.Played.{the_sight}

pub returns : goal.returns
returns c = the_sight
