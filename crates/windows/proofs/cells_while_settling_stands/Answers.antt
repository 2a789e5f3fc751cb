use Rattle.windows.proofs.PartCells.{cells_while_settling}
use Rattle.windows.proofs.cells_while_settling_stands.Goals as goal

pub returns : goal.returns
returns c = cells_while_settling
