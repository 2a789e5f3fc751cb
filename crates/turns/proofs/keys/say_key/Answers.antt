use Rattle.turns.proofs.Going.{stored_done}
use Rattle.turns.proofs.Prefixes.{say_does}
use Rattle.turns.proofs.keys.say_key.Goals as goal

pub returns : goal.returns
returns c =
    let x = c.args.x in
    let m = c.args.memory.now in
    say_does x m _ _ _ _ _ _ (stored_done x m _ _ c.store.ensures c.told-memory) c.focus.ensures.is c.send_key.ensures
