use Rattle.meaning.specs.Panes.{gone}
use Rattle.turns.specs.Turned.{turned}
use Rattle.turns.proofs.Taken.{taken}
use Rattle.turns.proofs.ends.end.Goals as goal

pub returns : goal.returns
returns c = taken (λ m. turned c.args.x m (gone c.args.id)) _ _ _ _ _ _ _ c.in-Some.ensures.cases c.in-Some-first_chunk_mut.ensures.cases c.take_end.ensures.row c.take_end.ensures.does
