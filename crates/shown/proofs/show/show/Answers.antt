use Rattle.std.proofs.Common.{[], vec_items, arith}
use Rattle.shown.proofs.Driving.{shows}
use Rattle.shown.proofs.show.show.Goals as goal

pub returns : goal.returns
returns c =
    let s = c.in-Some.ensures in
    shows (vec_items c.args.out.now) c.args.size c.args.cells.now c.args.bytes.now _ _ _ _ _ c.write_screen.result (vec_items c.write_screen.new.out) s.0 s.1 (s.2 []) (omega arith) (omega arith) c.feed_all.ensures c.write_screen.ensures
