use Rattle.std.proofs.Common.{◌≡◌, ◌^◌, ◌<◌, drop}
use Rattle.days.specs.Line.{number_on}
use Rattle.days.proofs.number.read_number.Given as goal

abbrev pub invariant-loop-c : goal.invariant-loop-c
invariant-loop-c l = (number_on l.n (drop l.c-index l.digits) ≡ number_on 0 l.digits) × (l.n < 10 ^ l.c-index)
