use Rattle.std.proofs.Common.{rules}
use Rattle.terminal.proofs.Renditions.{folded}
use Rattle.terminal.proofs.sgr.select_graphic_rendition.Goals as goal

pub returns : goal.returns
returns c = rw (← c.iter.ensures.rest) (folded _ _ _ c.iter.result _ (λ a n b f k. search rules) c.fold.ensures.ran)
