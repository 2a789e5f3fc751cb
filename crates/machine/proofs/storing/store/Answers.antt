use Rattle.machine.specs.States.{state_of}
use Rattle.machine.proofs.storing.store.Goals as goal

pub returns : goal.returns
unfolding state_of
returns c =
    let s = c.store_with_next.ensures in
    record { told = s.told; done = s.done; kept = s.kept }
