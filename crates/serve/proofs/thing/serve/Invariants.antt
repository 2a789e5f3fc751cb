use Rattle.std.proofs.Common.{◌-◌, false}
use Rattle.engine.specs.Detaching.{detaching_machine}
use Rattle.meaning.specs.Promise.{comes}
use Rattle.live.specs.Coming.{event_of, sizes_fit}
use Rattle.serve.specs.Log.{log_of}
use Rattle.serve.specs.Serving.{told_it, goes}
use Rattle.serve.proofs.Going.{Left}
use Rattle.serve.proofs.thing.serve.Given as goal

abbrev pub invariant-loop : goal.invariant-loop
invariant-loop l =
    Left detaching_machine
    (goes (sizes_fit detaching_machine l.initial.memory l.initial.out) l.budget detaching_machine l.initial.memory (comes (event_of l.fn.coming l.bytes)) (log_of l.initial.acts) false)
    (sizes_fit detaching_machine l.initial.memory l.initial.out) (l.budget - l.counter) l.memory (told_it l.to_tell l.bytes) l.out (log_of l.acts) l.over
