use Rattle.grid.proofs.Flat.{shifted_in}
use Rattle.grid.proofs.shift.shift_in.Goals as goal

pub returns : goal.returns
returns c = shifted_in _ _ _ _ _ _ c.min-k.ensures c.copy_within.ensures.after (c.fill.ensures.after (λ y e. e))
