use Rattle.std.proofs.Common.{replicate, rules, arith}
use Rattle.shown.proofs.Driving.{driving_none, driving_fed, driving_all}
use Rattle.shown.proofs.feed.feed_parts.Goals as goal

pub loop-part-init : goal.loop-part-init
loop-part-init c = (search rules, tt, search rules, driving_none _ _ _ _ (search rules))

pub loop-part-preserved : goal.loop-part-preserved
loop-part-preserved c =
    let s = c.in-Some.ensures.steps in
    (search rules, search rules, search rules, driving_fed c.loop-part.invariant.3 c.in-Some.part.now _ (replicate 640 0) _ _ _ _ s.1.0 (omega arith) (omega arith) (omega arith) c.feed.ensures)

pub returns : goal.returns
returns c = driving_all c.loop-part.invariant.3 c.in-None.ensures.steps.1.0
