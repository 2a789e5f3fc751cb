use Rattle.meaning.specs.Promise.{everything}
use Rattle.stored.proofs.many_comes_back_stands.Goals as goal
use Rattle.stored.proofs.Whole.{back_many}

pub returns : goal.returns
returns c = back_many everything
