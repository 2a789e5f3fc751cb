use Rattle.std.proofs.Common.{arith}
use Rattle.output.proofs.Adding.{both, room_left}
use Rattle.render.proofs.sequence.add_parameter.Goals as goal

pub returns-clause-added : goal.returns-clause-added
returns-clause-added c =
    let p = c.push.ensures.added (omega arith) in
    both p (c.number.ensures.added (let r = room_left 3 p (omega arith) in omega arith) (omega arith))
