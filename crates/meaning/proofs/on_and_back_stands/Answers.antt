use Rattle.meaning.proofs.on_and_back_stands.Goals as goal
use Rattle.meaning.proofs.Cursor.{on_and_back}

pub returns : goal.returns
returns c = on_and_back
