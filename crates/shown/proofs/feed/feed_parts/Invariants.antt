use Rattle.std.proofs.Common.{◌≡◌}
use Rattle.std.specs.Slice.Iter.{chunks_rest, chunks_size}
use Rattle.shown.proofs.Driving.{Driving}
use Rattle.shown.proofs.feed.feed_parts.Given as goal

abbrev pub invariant-loop-part : goal.invariant-loop-part
invariant-loop-part l = (goal.iterator-loop-part).can_next l.part-iterator × (goal.iterator-loop-part).is_finite l.part-iterator × (chunks_size l.part-iterator ≡ 64)
    × Driving l.initial.term l.initial.cells l.bytes l.term l.cells (chunks_rest l.part-iterator)
