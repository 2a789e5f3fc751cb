use Rattle.std.proofs.Common.{◌≡◌, false}
use Rattle.engine.specs.State.{looks}
use Rattle.machine.specs.States.{glass_of}
use Rattle.turns.proofs.Going.{rest_does, nobody_looks, nothing_there, stored_done}
use Rattle.turns.proofs.show.advance.Goals as goal
use Rattle.turns.proofs.show.advance.Goals.{in_default-via-in-Some+else-x, in_default-via-in_default}

pub returns-in_default-clause-does : goal.returns-in_default-clause-does
returns-in_default-clause-does c =
    let x = c.args.x in
    let m = c.args.memory.now in
    let none : looks (glass_of x m) ≡ false = elim c.in_default.branch [ in_default-via-in-Some+else-x w ↦ nobody_looks x m w.if-x.false | in_default-via-in_default w ↦ nothing_there x m w.in_default.is ] in
    rest_does x m _ _ none (stored_done x m _ _ c.store.ensures c.told-memory)
