use Rattle.std.proofs.Common.{arith}
use Rattle.turns.proofs.Prefixes.{send_told}
use Rattle.turns.proofs.keys.send_key.Goals as goal

pub returns : goal.returns
returns c = send_told c.args.id c.args.c c.args.out.now (omega arith)
