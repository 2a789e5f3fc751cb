use Rattle.meaning.proofs.keys_go_stands.Goals as goal
use Rattle.meaning.proofs.Cursor.{keys_go}

pub returns : goal.returns
returns c = keys_go
