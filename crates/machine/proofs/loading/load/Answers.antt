use Rattle.std.proofs.Common.{ℕ, List, get_or, sym, ap, ◌∙◌, subst, arith}
use Rattle.machine.specs.States.{Holds, used_fits}
use Rattle.machine.proofs.Finding.{not_sized, not_kind, first_found, later_found}
use Rattle.machine.proofs.loading.load.Goals as goal

pub returns-in_err-memory : goal.returns-in_err-memory
returns-in_err-memory c = rw c.from_residual.ensures (not_sized c.args.memory.now c.in_err-memory.ensures.cases)

pub returns-in-0 : goal.returns-in-0
returns-in-0 c =
    let w = c.in_ok-memory.ensures.cases in
    first_found c.args.memory.now w.long (ap (λ (y : List ℕ). get_or y 0 0) (sym w.same) ∙ c.in-0.is)

pub returns-in_ok-load_used-in-1 : goal.returns-in_ok-load_used-in-1
returns-in_ok-load_used-in-1 c =
    let w = c.in_ok-memory.ensures.cases in
    let l = later_found c.args.memory.now w.long (ap (λ (y : List ℕ). get_or y 0 0) (sym w.same) ∙ c.in-1.is) in
    let h = subst (λ (y : List ℕ). Holds y c.in_ok-load_used-in-1.field-0) w.same c.in_ok-load_used-in-1.ensures in
    (l.0 ∙ h.fits, l.1 ∙ h.same, h.few)

pub returns-in_err-load_used-in-1 : goal.returns-in_err-load_used-in-1
returns-in_err-load_used-in-1 c =
    let w = c.in_ok-memory.ensures.cases in
    let l = later_found c.args.memory.now w.long (ap (λ (y : List ℕ). get_or y 0 0) (sym w.same) ∙ c.in-1.is) in
    rw c.from_residual-in_err-load_used-in-1.ensures (l.0 ∙ (ap used_fits (sym w.same) ∙ c.in_err-load_used-in-1.ensures))

pub returns-in_default : goal.returns-in_default
returns-in_default c =
    let w = c.in_ok-memory.ensures.cases in
    let k = ap (λ (y : List ℕ). get_or y 0 0) w.same in
    not_kind c.args.memory.now (λ e. omega arith) (λ e. omega arith)
