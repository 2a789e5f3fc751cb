use mathlib.Core.List.{[]}
use native.Mathlib.Omega.{arith}
use Rattle.terminal_c.proofs.Writing.{wrote}
use Rattle.terminal_c.proofs.terminal_write.Goals as goal

pub returns : goal.returns
returns c =
    let z = c.in-Some.ensures in
    let s = c.in-Some-start.ensures in
    wrote _ _ c.in-Some.size c.args.cells.now _ _ _ _ _ _ z.0 z.1 z.2 s.0 s.1 (s.2 []) (omega arith) c.feed_all.ensures
