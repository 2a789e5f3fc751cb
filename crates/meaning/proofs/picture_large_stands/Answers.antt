use Rattle.meaning.proofs.picture_large_stands.Goals as goal
use Rattle.meaning.proofs.Large.{picture_large}

pub returns : goal.returns
returns c = picture_large
