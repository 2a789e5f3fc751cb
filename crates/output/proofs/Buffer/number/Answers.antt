use Rattle.std.proofs.Common.{arith}
use Rattle.output.proofs.Adding.{both, room_left}
use Rattle.output.proofs.Digits.{one_digit, two_digits, three_digits}
use Rattle.output.proofs.Buffer.number.Goals as goal

pub returns-then-k-lt10-clause-added : goal.returns-then-k-lt10-clause-added
returns-then-k-lt10-clause-added c h k = rw (one_digit c.args.k (omega arith)) (c.push.ensures.added (omega arith))

pub returns-then-k-lt100-clause-added : goal.returns-then-k-lt100-clause-added
returns-then-k-lt100-clause-added c h k =
    let p = c.push-then-k-lt100.ensures.added (omega arith) in
    let q = c.push-then-k-lt100-2.ensures.added (let r = room_left 1 p (omega arith) in omega arith) in
    rw (two_digits c.args.k (omega arith) (omega arith)) (both p q)

pub returns-else-k-lt100-clause-added : goal.returns-else-k-lt100-clause-added
returns-else-k-lt100-clause-added c h k =
    let p = c.push-else-k-lt100.ensures.added (omega arith) in
    let q = c.push-else-k-lt100-2.ensures.added (let r = room_left 1 p (omega arith) in omega arith) in
    let s = c.push-else-k-lt100-3.ensures.added (let r = room_left 1 (both p q) (omega arith) in omega arith) in
    rw (three_digits c.args.k (omega arith) (omega arith)) (both p (both q s))
