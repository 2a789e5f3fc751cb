use Rattle.windows.proofs.sane_turn_stands.Goals as goal
use Rattle.windows.proofs.Turns.{keeps_sane}

pub returns : goal.returns
returns c = keeps_sane
