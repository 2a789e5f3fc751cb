use Rattle.std.proofs.Common.{◌≡◌, map, length, take, vec_items}
use Rattle.days.specs.Line.{line_of}
use Rattle.days.specs.Day.{lines_of, said}
use Rattle.days.proofs.day.read_day.Given as goal

abbrev pub invariant-loop-text : goal.invariant-loop-text
invariant-loop-text l = map said (vec_items l.day) ≡ map line_of (take (length l.yielded) (lines_of l.text))
