use Rattle.std.proofs.Common.{arith}
use Rattle.output.proofs.Adding.{both}
use Rattle.render.specs.Sequences.{cursor_position}
use Rattle.render.proofs.sequence.address.Goals as goal

pub returns-clause-added : goal.returns-clause-added
unfolding cursor_position
returns-clause-added c =
    let p = c.text.ensures.added (omega arith) in
    let j = p.added.far in
    let k = p.long in
    let l = c.number.ensures.most in
    let a = c.number.ensures.added (omega arith) (omega arith) in
    let m = a.long in
    let q = c.push.ensures.added (omega arith) in
    let n = q.added.far in
    let o = q.long in
    let r = c.number-2.ensures.most in
    let b = c.number-2.ensures.added (omega arith) (omega arith) in
    let s = b.long in
    both p (both a (both q (both b (c.push-2.ensures.added (omega arith)))))
