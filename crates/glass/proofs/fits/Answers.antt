use Rattle.std.proofs.Common.{arith}
use Rattle.std.proofs.lemmas.Bool.Decides.{nat_tests}
use Rattle.glass.proofs.Steps.{fits_is}
use Rattle.glass.proofs.fits.Goals as goal

pub returns-then-kind-le4 : goal.returns-then-kind-le4
returns-then-kind-le4 c = let e = fits_is c.args.memory.now c.args.kind c.args.out.now in grind (arith, nat_tests)

pub returns-else-kind-le4 : goal.returns-else-kind-le4
returns-else-kind-le4 c = let e = fits_is c.args.memory.now c.args.kind c.args.out.now in grind (arith, nat_tests)
