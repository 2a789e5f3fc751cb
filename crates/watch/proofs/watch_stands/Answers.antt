use Rattle.watch.proofs.watch_stands.Goals as goal
use Rattle.watch.proofs.Played.{the_watch}

pub returns : goal.returns
returns c = the_watch
