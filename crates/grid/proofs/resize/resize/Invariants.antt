use Rattle.std.proofs.Common.{◌≡◌}
use Rattle.grid.specs.Cells.{rows_of}
use Rattle.grid.proofs.Fitted.{fitted_so_far}
use Rattle.grid.proofs.resize.resize.Given as goal

abbrev pub invariant-loop-k : goal.invariant-loop-k
invariant-loop-k l = rows_of l.new_size.wide l.new_size.high l.new ≡ fitted_so_far l.new_size.wide l.new_size.high l.skip (rows_of l.old_size.wide l.old_size.high l.old) l.k
