use Rattle.std.proofs.Common.{arith}
use Rattle.turns.proofs.Going.{stored_done}
use Rattle.live.proofs.Stepping.{settles_in}
use Rattle.live.proofs.turn.settle_in.Goals as goal

pub returns : goal.returns
returns c = λ ys.
    settles_in c.untouched-x.result c.args.memory.now c.clear_view.new.memory c.store.new.memory ys c.told-memory c.untouched-x.ensures c.clear_view.ensures
    (stored_done c.untouched-x.result c.clear_view.new.memory _ _ c.store.ensures (omega arith))
