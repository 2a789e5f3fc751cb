use Rattle.std.proofs.Common.{◌≡◌, ◌+◌, ◌-◌, Bool, Ok, refl, sym, ap, ◌∙◌, arith}
use Rattle.meaning.specs.Words.{pick}
use Rattle.serve.specs.Serving.{went}
use Rattle.serve.specs.declared.ended.Ended.TheVariants.{Waits, Over}
use Rattle.serve.specs.Log.{log_of}
use Rattle.serve.proofs.Going.{refused, waited, on_over, on_other, out_of_steps}
use Rattle.serve.proofs.thing.serve.Goals as goal
use Rattle.serve.proofs.thing.serve.Goals.{in-Over, in_default-told}

pub loop-init : goal.loop-init
loop-init c = let z : c.args.budget - 0 ≡ c.args.budget = omega arith in record { so = rw z; fits = refl }

pub returns-in-No : goal.returns-in-No
returns-in-No c = λ _. record { so = refused _ _ _ _ _ _ _ _ _ (omega arith) c.loop.invariant _ _ _ c.one_step-told.ensures _ c.in-No.is }

pub returns-then-over : goal.returns-then-over
returns-then-over c = λ _.
    record {
      so = ap (λ (x : Bool). went c.one_step-told.new.memory (log_of c.note.new.self) (Ok (pick x Over Waits))) (sym c.if-over.true)
          ∙ waited _ _ _ _ _ _ _ _ _ (omega arith) c.loop.invariant _ _ _ c.one_step-told.ensures _ c.in_ok-note.ensures c.in-Wait.is;
    }

pub returns-else-over : goal.returns-else-over
returns-else-over c = λ _.
    record {
      so = ap (λ (x : Bool). went c.one_step-told.new.memory (log_of c.note.new.self) (Ok (pick x Over Waits))) (sym c.if-over.false)
          ∙ waited _ _ _ _ _ _ _ _ _ (omega arith) c.loop.invariant _ _ _ c.one_step-told.ensures _ c.in_ok-note.ensures c.in-Wait.is;
    }

pub loop-preserved : goal.loop-preserved
loop-preserved c =
    let less : (c.args.budget - c.loop.counter) - 1 ≡ c.args.budget - (c.loop.counter + 1) = omega arith in
    elim c.match-told-2.branch [
      | in-Over w ↦ rw (← less) (on_over _ _ _ _ _ _ _ _ _ (omega arith) c.loop.invariant _ _ _ c.one_step-told.ensures _ c.in_ok-note.ensures c.one_step-told.auto.memory c.one_step-told.auto.out c.in_default.not-No _ w.over-is w.in-Over.is)
      | in_default-told w ↦ rw (← less) (on_other _ _ _ _ _ _ _ _ _ (omega arith) c.loop.invariant _ _ _ c.one_step-told.ensures _ c.in_ok-note.ensures c.one_step-told.auto.memory c.one_step-told.auto.out c.in_default.not-No _ w.over-is w.in_default-told.not-Wait w.in_default-told.not-Over)
    ]

pub returns : goal.returns
returns c = λ _. record { so = out_of_steps _ _ _ _ _ _ _ _ _ (omega arith) c.loop.invariant }
