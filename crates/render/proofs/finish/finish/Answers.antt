use Rattle.std.proofs.Common.{sym, ◌∙◌, arith, rules}
use Rattle.std.proofs.lemmas.Bool.{and_right}
use Rattle.std.proofs.lemmas.Bool.Decides.{nat_tests}
use Rattle.render.proofs.Finishing.{refused, closed}
use Rattle.render.proofs.finish.finish.Goals as goal
use Rattle.render.proofs.finish.finish.Goals.{then-out-lt16-via-then-out-lt16, then-out-lt16-via-else-out-lt16+then-not-allowed}

pub returns-then-out-lt16 : goal.returns-then-out-lt16
returns-then-out-lt16 c = refused _ _ _ _ _ _ _ (elim c.then-out-lt16.branch [
  | then-out-lt16-via-then-out-lt16 w ↦ let l = w.if-out-lt16.true in grind (arith, nat_tests)
  | then-out-lt16-via-else-out-lt16+then-not-allowed w ↦ and_right _ _ (sym w.allowed.ensures ∙ w.if-not-allowed.true)
])

pub returns : goal.returns
returns c =
    let a = c.close.ensures.added in
    let s = a.same_row in
    let d = closed c.args.size.wide c.args.size.high _ _ _ _ _ _ _ _ (omega arith) (sym c.allowed.ensures ∙ c.if-not-allowed.false) a.added c.close.ensures.most c.close.ensures.set_to in
    search rules
