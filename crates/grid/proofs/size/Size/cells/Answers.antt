use Rattle.std.proofs.Common.{refl, arith}
use Rattle.std.proofs.lemmas.Nat.{mul-le}
use Rattle.grid.proofs.size.Size.cells.Goals as goal

pub returns : goal.returns
returns c = (refl, mul-le c.args.self.high c.args.self.wide 60 200 (omega arith) (omega arith))
