use Rattle.meaning.proofs.restored_stands.Goals as goal
use Rattle.meaning.proofs.Cursor.{restored}

pub returns : goal.returns
returns c = restored
