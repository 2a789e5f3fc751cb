use Rattle.windows.proofs.stays_at_rest_stands.Goals as goal
use Rattle.windows.proofs.Turns.{stays_at_rest}

pub returns : goal.returns
returns c = stays_at_rest
