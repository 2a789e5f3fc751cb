use Rattle.std.proofs.Common.{◌≡◌, drop}
use Rattle.meaning.specs.Bytes.{modes}
use Rattle.terminal.specs.Does.{state_of}
use Rattle.terminal.proofs.screen.Screen.set_modes.Given as goal

abbrev pub invariant-loop-n : goal.invariant-loop-n
invariant-loop-n l = record {
  term : modes l.on l.private (state_of l.self) (drop l.n-index l.numbers) ≡ modes l.on l.private (state_of l.initial.self) l.numbers;
  same_row : l.self.cells.ghost_name ≡ l.initial.self.cells.ghost_name;
  same_answer : l.self.answer ≡ l.initial.self.answer;
}
