use Rattle.std.proofs.Common.{arith}
use Rattle.turns.proofs.Going.{close_is, close_writes, close_waits, stored_done}
use Rattle.machine.specs.States.{glass_of, view_of}
use Rattle.turns.proofs.show.close.Goals as goal

pub returns-then-k-gt0 : goal.returns-then-k-gt0
returns-then-k-gt0 c =
    let x = c.args.x in
    let m = c.args.memory.now in
    close_writes (glass_of x m) (view_of x m) m _ _ _ c.send_cursor-k.new.pen c.send_cursor-k.result
    (close_is x c.args.p m _ _ _ _ c.requires.pane c.requires.looked c.send_cursor-k.ensures) c.if-k-gt0.true (stored_done _ m _ _ c.store.ensures c.told-memory)

pub returns : goal.returns
returns c =
    let x = c.args.x in
    let m = c.args.memory.now in
    close_waits (glass_of x m) (view_of x m) m _ _ _ c.send_cursor-k.new.pen c.send_cursor-k.result
    (close_is x c.args.p m _ _ _ _ c.requires.pane c.requires.looked c.send_cursor-k.ensures) (omega arith) (stored_done x m _ _ c.store-2.ensures c.told-memory)
