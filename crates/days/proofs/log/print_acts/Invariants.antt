use Rattle.std.proofs.Common.{◌≡◌, ◌++◌, drop, vec_items}
use Rattle.days.specs.Acts.{acts_lines}
use Rattle.days.proofs.log.print_acts.Given as goal

abbrev pub invariant-loop-act : goal.invariant-loop-act
invariant-loop-act l = vec_items l.out ++ acts_lines (drop l.act-index l.acts) l.to_write l.to_send ≡ vec_items l.initial.out ++ acts_lines l.acts l.initial.to_write l.initial.to_send
