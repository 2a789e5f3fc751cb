use Rattle.meaning.proofs.shared_stands.Goals as goal
use Rattle.meaning.proofs.Places.{shared}

pub returns : goal.returns
returns c = shared
