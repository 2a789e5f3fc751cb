use Rattle.meaning.specs.Promise.{everything}
use Rattle.stored.proofs.whole_many_stands.Goals as goal
use Rattle.stored.proofs.Whole.{whole_many}

pub returns : goal.returns
returns c = whole_many everything
