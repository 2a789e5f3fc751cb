use Rattle.following.proofs.Keys.{over_here, none_left, goes_on}
use Rattle.following.proofs.follows.Follows.keys.Goals as goal

pub returns-then-branch : goal.returns-then-branch
returns-then-branch g c = over_here g.Self.Follows.comes c.args.codes.now _ c.loop-code.self c.loop-code.code-index _ 0 _ c.if-branch.true c.loop-code-test.true c.in_ok-comes.ensures c.loop-code.invariant

pub loop-code-preserved : goal.loop-code-preserved
loop-code-preserved g c = goes_on g.Self.Follows.comes c.args.codes.now _ c.loop-code.self _ c.loop-code.code-index 0 _ c.if-branch.false c.loop-code-test.true c.in_ok-comes.ensures c.loop-code.invariant

pub returns : goal.returns
returns g c = none_left g.Self.Follows.comes c.args.codes.now _ c.loop-code.self c.loop-code.code-index c.loop-code-test.false c.loop-code.invariant
