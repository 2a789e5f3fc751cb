use Rattle.windows.proofs.settles_stands.Goals as goal
use Rattle.windows.proofs.Turns.{settles_by_steps}

pub returns : goal.returns
returns c = settles_by_steps
