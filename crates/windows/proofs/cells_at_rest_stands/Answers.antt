use Rattle.windows.proofs.PartCells.{cells_at_rest}
use Rattle.windows.proofs.cells_at_rest_stands.Goals as goal

pub returns : goal.returns
returns c = cells_at_rest
