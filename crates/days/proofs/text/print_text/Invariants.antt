use Rattle.std.proofs.Common.{◌≡◌, ◌++◌, drop, vec_items}
use Rattle.days.specs.Text.{escaped}
use Rattle.days.proofs.text.print_text.Given as goal

abbrev pub invariant-loop-b : goal.invariant-loop-b
invariant-loop-b l = vec_items l.out ++ escaped (drop l.b-index l.bytes) ≡ vec_items l.initial.out ++ escaped l.bytes
