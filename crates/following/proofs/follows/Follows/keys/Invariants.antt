use Rattle.following.proofs.Keys.{Leads}
use Rattle.following.proofs.follows.Follows.keys.Given as goal

abbrev pub invariant-loop-code : goal.invariant-loop-code
invariant-loop-code g l = Leads g.Self.Follows.comes l.codes l.initial.self l.self l.code-index
