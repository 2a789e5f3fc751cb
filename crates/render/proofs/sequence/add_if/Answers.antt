use Rattle.std.proofs.Common.{arith}
use Rattle.std.proofs.lemmas.Bool.{ne_eqb}
use Rattle.output.proofs.Adding.{both, room_left}
use Rattle.output.proofs.Digits.{one_digit}
use Rattle.render.proofs.sequence.add_if.Goals as goal

pub returns-then-bit-ne0-clause-added : goal.returns-then-bit-ne0-clause-added
returns-then-bit-ne0-clause-added c =
    let p = c.push.ensures.added (omega arith) in
    let q = c.push-then-bit-ne0.ensures.added (let r = room_left 1 p (omega arith) in omega arith) in
    rw (ne_eqb c.args.bit 0 c.if-bit-ne0.true, one_digit c.args.k (omega arith)) (both p q)
