use Rattle.std.proofs.Common.{length}
use Rattle.render.specs.Draw.{drawn_from, at_start}
use Rattle.render.proofs.Drawing.{Going}
use Rattle.render.proofs.draw.draw.Given as goal

abbrev pub invariant-loop-i : goal.invariant-loop-i
invariant-loop-i l =
    Going l.size.wide l.picture (drawn_from l.size.wide (length l.initial.sent.bytes.now) l.picture 0 (at_start l.initial.screen l.initial.pen))
    l.initial.sent l.i l.screen l.pen l.sent
