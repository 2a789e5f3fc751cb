use Rattle.std.proofs.Common.{add-one, arith}
use Rattle.output.proofs.Adding.{both, room_left}
use Rattle.shown.proofs.line.write_cursor.Goals as goal

pub returns-clause-added : goal.returns-clause-added
returns-clause-added c xs a =
    let p = (c.text-2.ensures.added (omega arith)) in
    let room = room_left 9 p (omega arith) in
    let q = c.number.ensures.added (omega arith) (omega arith) in
    let d = c.push.ensures.added (let l = q.long in omega (arith, c.number.ensures.most)) in
    let room₂ = room_left 5 d (let l = q.long in omega (arith, c.number.ensures.most)) in
    let e = c.number-2.ensures.added (omega arith) (omega arith) in
    let g = c.push-2.ensures.added (let l = e.long in omega (arith, c.number-2.ensures.most)) in
    rw (c.if-not-term.false) (both p (both (rw add-one at q) (both d (both (rw add-one at e) g))))
