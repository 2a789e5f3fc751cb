use Rattle.std.proofs.Common.{arith}
use Rattle.turns.proofs.Going.{stored_done}
use Rattle.live.proofs.Heard.{retermed, bytes_answered, bytes_go}
use Rattle.live.proofs.bytes.write_pane.Goals as goal

pub returns-then-count-gt0 : goal.returns-then-count-gt0
returns-then-count-gt0 c =
    let x = c.args.x in
    let p = c.args.p in
    bytes_answered x _ p _ c.args.memory.now _ _ _ _ _ _ c.told-memory c.requires.pane (retermed x p _ c.requires.pane) c.feed_pane-count.ensures.done c.if-count-gt0.true
    (stored_done _ _ _ _ c.store.ensures c.feed_pane-count.array_long)

pub returns : goal.returns
returns c =
    let x = c.args.x in
    let p = c.args.p in
    bytes_go x _ p _ c.args.memory.now _ _ _ _ _ _ _ _ c.told-memory c.requires.pane (retermed x p _ c.requires.pane) c.feed_pane-count.ensures.done (omega arith) c.advance.ensures.does
