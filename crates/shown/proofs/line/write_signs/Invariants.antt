use Rattle.std.proofs.Common.{map, take}
use Rattle.grid.specs.Cells.{unpacked}
use Rattle.output.specs.Added.{Adds}
use Rattle.shown.specs.Text.{shown_sign}
use Rattle.shown.proofs.line.write_signs.Given as goal

abbrev pub invariant-loop-cell : goal.invariant-loop-cell
invariant-loop-cell l = Adds l.initial.buffer l.buffer (map shown_sign (map unpacked (take l.cell-index l.row)))
