use Rattle.render_law.proofs.Drawn.{every_drawn}
use Rattle.render_law.proofs.drawn_stands.Goals as goal

pub returns : goal.returns
returns c = every_drawn
