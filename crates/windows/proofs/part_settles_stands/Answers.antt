use Rattle.windows.proofs.part_settles_stands.Goals as goal
use Rattle.windows.proofs.Turns.{parts_settle}

pub returns : goal.returns
returns c = parts_settle
