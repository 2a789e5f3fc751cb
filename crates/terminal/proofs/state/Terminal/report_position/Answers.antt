use Rattle.std.proofs.Common.{◌≡◌, ℕ, suc, ◌+◌, ◌-◌, subst, add-one, arith}
use Rattle.std.proofs.lemmas.Bool.Decides.{nat_tests}
use Rattle.meaning.specs.Words.{pick}
use Rattle.meaning.specs.Bytes.{in_digits}
use Rattle.output.specs.Added.{Adds}
use Rattle.output.specs.declared.Buffer.{Buffer}
use Rattle.output.proofs.Adding.{both}
use Rattle.terminal.proofs.state.Terminal.report_position.Goals as goal
use Rattle.terminal.proofs.state.Terminal.report_position.Goals.{then-self, else-self}

-- the same number, written another way
told_as : {old new : Buffer} (j k : ℕ) → j ≡ k → Adds old new (in_digits j) → Adds old new (in_digits k)
told_as {old} {new} j k e d = subst (λ (i : ℕ). Adds old new (in_digits i)) e d

pub returns-clause-added : goal.returns-clause-added
returns-clause-added c =
    let s = c.args.self.now in
    let row : c.saturating_sub-row.result + 1 ≡ suc (s.cursor.row - pick s.modes.origin s.top 0) =
    elim c.if-self.branch [ then-self w ↦ grind (arith, nat_tests) | else-self w ↦ grind (arith, nat_tests) ] in
    let p = c.push.ensures.added (omega arith) in
    let q = c.push-2.ensures.added (omega arith) in
    let d = told_as _ _ row (c.number.ensures.added (omega arith) (omega arith)) in
    let e = c.push-3.ensures.added (omega arith) in
    let f = told_as _ _ (add-one s.cursor.col) (c.number-2.ensures.added (omega arith) (omega arith)) in
    let g = c.push-4.ensures.added (omega arith) in
    λ xs a. both (both (both p (both q d)) (both e f)) g
