use Rattle.grid.proofs.Flat.{shifted_out}
use Rattle.grid.proofs.shift.shift_out.Goals as goal

pub returns : goal.returns
returns c = shifted_out _ _ _ _ _ _ c.min-k.ensures c.copy_within.ensures.after (c.fill.ensures.after (λ y e. e))
