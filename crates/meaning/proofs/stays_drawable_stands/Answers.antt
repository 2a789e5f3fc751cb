use Rattle.meaning.proofs.stays_drawable_stands.Goals as goal
use Rattle.meaning.proofs.Drawable.{stays_drawable}

pub returns : goal.returns
returns c = stays_drawable
