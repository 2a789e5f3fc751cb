use Rattle.std.proofs.Common.{length}
use Rattle.std.specs.Slice.Iter.{chunks_exact_rest, chunks_exact_size}
use Rattle.shown.proofs.Rows.{RowsSoFar}
use Rattle.shown.proofs.line.write_rows.Given as goal

abbrev pub invariant-loop-row : goal.invariant-loop-row
invariant-loop-row l = (goal.iterator-loop-row).can_next l.row-iterator × (goal.iterator-loop-row).is_finite l.row-iterator
    × RowsSoFar l.fn.size.wide l.fn.size.high l.cells l.initial.buffer l.buffer (length l.yielded) (chunks_exact_size l.row-iterator) (chunks_exact_rest l.row-iterator)
