use Rattle.days.proofs.Listing.{one_printed, all_printed}
use Rattle.days.proofs.log.print_acts.Goals as goal

pub loop-act-preserved : goal.loop-act-preserved
loop-act-preserved c = one_printed _ _ _ _ _ _ _ c.args.acts.now c.loop-act.act-index _ c.loop-act-test.true c.in_ok-print_one.ensures.all c.left.ensures.written c.left.ensures.sent c.loop-act.invariant

pub returns : goal.returns
returns c = record { all = all_printed _ _ _ _ c.args.acts.now _ c.loop-act-test.false c.loop-act.invariant }
