use Rattle.std.proofs.Common.{false, sym, ◌∙◌}
use Rattle.machine.specs.States.{glass_of}
use Rattle.turns.proofs.Going.{stored_done}
use Rattle.live.proofs.Leaving.{without_viewer, key_leaves, leaves_does, stays_does}
use Rattle.live.proofs.keys.take_key.Goals as goal

pub returns-then-leaves : goal.returns-then-leaves
returns-then-leaves c =
    let x = c.args.x in
    let m = c.args.memory.now in
    leaves_does x (record x { attached = false; prefix = false }) m _ _ c.args.c (without_viewer x) (key_leaves (glass_of x m) c.args.c (sym c.leaves.ensures ∙ c.if-leaves.true)) (stored_done _ m _ _ c.store.ensures c.told-memory)

pub returns : goal.returns
returns c = stays_does c.args.x c.args.memory.now _ _ _ c.args.c _ (sym c.leaves.ensures ∙ c.if-leaves.false) c.take_key.ensures.does
