use Rattle.render_law.proofs.Law.{writer_law}
use Rattle.render_law.proofs.writer_law_stands.Goals as goal

pub returns : goal.returns
returns c = writer_law
