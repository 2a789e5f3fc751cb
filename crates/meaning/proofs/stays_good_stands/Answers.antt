use Rattle.meaning.proofs.stays_good_stands.Goals as goal
use Rattle.meaning.proofs.Sound.{stays_good}

pub returns : goal.returns
returns c = stays_good
