use Rattle.std.proofs.Common.{◌≡◌, ◌+◌, ◌≤◌, drop}
use Rattle.render_law.specs.Law as law
use Rattle.player.proofs.count.differing.Given as goal

abbrev pub invariant-loop-i : goal.invariant-loop-i
invariant-loop-i l = (l.count + law.differing (drop l.i l.before) (drop l.i l.after) ≡ law.differing l.before l.after) × (l.count ≤ l.i)
