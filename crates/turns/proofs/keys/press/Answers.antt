use Rattle.meaning.specs.Panes.{key}
use Rattle.turns.specs.Turned.{turned}
use Rattle.turns.proofs.Taken.{taken}
use Rattle.turns.proofs.keys.press.Goals as goal

pub returns : goal.returns
returns c = taken (λ m. turned c.args.x m (key c.args.c)) _ _ _ _ _ _ _ c.in-Some.ensures.cases c.in-Some-first_chunk_mut.ensures.cases c.take_key.ensures.row c.take_key.ensures.does
