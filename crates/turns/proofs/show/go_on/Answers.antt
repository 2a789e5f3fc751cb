use Rattle.engine.specs.State.{going}
use Rattle.machine.specs.States.{glass_of, view_of}
use Rattle.turns.proofs.Taken.{taken}
use Rattle.turns.proofs.show.go_on.Goals as goal

pub returns : goal.returns
returns c = taken (λ m. going (glass_of c.args.x m) (view_of c.args.x m)) _ _ _ _ _ _ _ c.in-Some.ensures.cases c.in-Some-first_chunk_mut.ensures.cases c.advance.ensures.row c.advance.ensures.does
