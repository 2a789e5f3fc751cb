use Rattle.std.proofs.Common.{arith}
use Rattle.std.proofs.lemmas.Bool.Decides.{nat_tests}
use Rattle.live.proofs.Telling.{key_proper, from_proper, gone_proper, look_proper}
use Rattle.live.proofs.coming.is_proper.Goals as goal

pub returns-in-Key : goal.returns-in-Key
returns-in-Key c = key_proper c.args.coming c.args.bytes.now c.in-Key.key _ c.in-Key.is c.is_key.ensures

pub returns-in-From : goal.returns-in-From
returns-in-From c = from_proper c.args.coming c.args.bytes.now c.in-From.field-0 c.in-From.is c.type_inv.bytes

pub returns-in-Gone : goal.returns-in-Gone
returns-in-Gone c = gone_proper c.args.coming c.args.bytes.now c.in-Gone.field-0 c.in-Gone.is

pub returns-then-contains : goal.returns-then-contains
returns-then-contains c = look_proper c.args.coming c.args.bytes.now c.in-Look.columns c.in-Look.rows _ c.in-Look.is (grind (arith, nat_tests))

pub returns-else-contains : goal.returns-else-contains
returns-else-contains c = look_proper c.args.coming c.args.bytes.now c.in-Look.columns c.in-Look.rows _ c.in-Look.is (grind (arith, nat_tests))
