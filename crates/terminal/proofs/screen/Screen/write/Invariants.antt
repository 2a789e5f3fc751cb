use Rattle.terminal.proofs.Feeding.{Feeding}
use Rattle.terminal.proofs.screen.Screen.write.Given as goal

abbrev pub invariant-loop-b : goal.invariant-loop-b
invariant-loop-b l = Feeding l.initial.self l.bytes l.b-index l.self
