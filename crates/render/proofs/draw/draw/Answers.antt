use Rattle.std.proofs.Common.{◌∙◌, inl, inr, arith, rules}
use Rattle.render.proofs.Drawing.{refused, drew, turn_left, turn_sent}
use Rattle.render.proofs.draw.draw.Goals as goal
use Rattle.render.proofs.draw.draw.Goals.{then-screen-cells-via-then-screen-cells, then-screen-cells-via-else-screen-cells+then-picture-cells, then-screen-i+then-sent, else-screen-i, else-screen-i-via-then-screen-i+else-sent, else-screen-i-via-else-screen-i}

pub returns-then-screen-cells : goal.returns-then-screen-cells
returns-then-screen-cells c =
    let n = c.cells.ensures.0 in
    refused _ _ _ _ _ _ _ (elim c.then-screen-cells.branch [
      | then-screen-cells-via-then-screen-cells w ↦ (λ a b. w.if-screen-cells.true (omega arith))
      | then-screen-cells-via-else-screen-cells+then-picture-cells w ↦ (let m = w.cells-else-screen-cells.ensures.0 in λ a b. w.if-picture-cells.true (omega arith))
    ])

pub loop-i-preserved : goal.loop-i-preserved
loop-i-preserved c = elim c.if-screen-i.branch [
  | then-screen-i+then-sent w ↦ rw (w.screen-is, w.pen-is, w.sent-is) (turn_sent c.loop-i-test.true w.if-screen-i.true w.if-sent.true w.write_cell.ensures.added w.write_cell.ensures.most w.after.ensures c.loop-i.invariant)
  | else-screen-i w ↦ rw (w.screen-is, w.pen-is, w.sent-is) (turn_left c.loop-i-test.true
      (elim w.else-screen-i.branch [ else-screen-i-via-then-screen-i+else-sent u ↦ inr u.if-sent.false | else-screen-i-via-else-screen-i u ↦ inl u.if-screen-i.false ]) c.loop-i.invariant)
]

pub returns : goal.returns
returns c =
    let d = drew c.args.size.high _ _ (c.if-screen-cells.false ∙ c.cells.ensures.0) (c.if-picture-cells.false ∙ c.cells-else-screen-cells.ensures.0) c.loop-i-test.false c.loop-i.invariant in
    let same = c.loop-i.invariant.same_row in
    search rules
