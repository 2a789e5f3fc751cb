use Rattle.std.proofs.Common.{◌<◌, length, arith}
use Rattle.player.proofs.Counting.{one_same, one_other, none_left, by_rows}
use Rattle.player.proofs.count.differing.Goals as goal
use Rattle.player.proofs.count.differing.Goals.{then-before-i, else-before-i}

pub loop-i-preserved : goal.loop-i-preserved
loop-i-preserved c =
    let end = c.min-end.ensures in
    let h : c.loop-i.i < length c.args.before.now = omega arith in
    let k : c.loop-i.i < length c.args.after.now = omega arith in
    elim c.if-before-i.branch [
      | then-before-i w ↦
          let e = one_other c.args.before.now c.args.after.now c.loop-i.i c.loop-i.count _ h k w.if-before-i.true c.loop-i.invariant.0 in
          (omega (arith, w.count-is), omega (arith, w.count-is))
      | else-before-i w ↦
          let e = one_same c.args.before.now c.args.after.now c.loop-i.i c.loop-i.count _ h k w.if-before-i.false c.loop-i.invariant.0 in
          (omega (arith, w.count-is), omega (arith, w.count-is))
    ]

pub returns : goal.returns
returns c =
    let end = c.min-end.ensures in
    let e = none_left c.args.before.now c.args.after.now c.loop-i.i _ _ (omega arith) c.loop-i.invariant.0 in
    record { flat = e; rows = by_rows _ _ _ e }
