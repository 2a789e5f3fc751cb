use Rattle.std.proofs.Common.{◌≡◌, length, ◌∙◌, arith, length-take}
use Rattle.live.proofs.Fed.{some_fed, length_lent, fed_answers}
use Rattle.live.proofs.bytes.feed_pane.Goals as goal

pub unwrap-requires : goal.unwrap-requires
unwrap-requires c = some_fed c.args.terminal.now _ c.args.memory.now c.args.bytes.now c.args.out.now _ _ c.cells-n.result c.feed.result c.cells-n.ensures.0 c.told-memory c.requires (omega arith) c.feed.ensures

pub returns-clause-done : goal.returns-clause-done
returns-clause-done c =
    let t = c.args.terminal.now in
    let m = c.args.memory.now in
    let out = c.args.out.now in
    let k = c.cells-n.result in
    let f = rw c.unwrap.ensures at c.feed.ensures in
    let lc : length c.feed.new.cells ≡ k = c.feed.auto.cells ∙ length_lent m k c.cells-n.ensures.1 c.told-memory in
    let lf : length c.feed.new.out ≡ 40960 = c.feed.auto.out ∙ (length-take 40960 out ∙ omega arith) in
    fed_answers t c.feed.new.self m c.args.bytes.now out c.feed.new.cells c.feed.new.out k c.unwrap.result c.cells-n.ensures.0 c.requires (omega arith) lc lf f.1
