use Rattle.std.proofs.Common.{◌+◌, ◌-◌, ◌*◌, ◌∙◌, arith, rules}
use Rattle.std.proofs.lemmas.Bool.Decides.{nat_tests}
use Rattle.grid.proofs.Parts.{row_fits}
use Rattle.grid.proofs.Fitted.{fitted_none, fitted_more, fitted_all}
use Rattle.grid.proofs.resize.resize.Goals as goal

pub loop-k-init : goal.loop-k-init
loop-k-init c = fitted_none c.args.new_size.wide c.args.new_size.high c.args.new.now _ (c.if-new-cells.false ∙ c.cells-else-old-cells.ensures.0) (c.fill.ensures.after (λ y e. e))

pub slice_bounds-copy_from_slice-end-in-loop-k : goal.slice_bounds-copy_from_slice-end-in-loop-k
slice_bounds-copy_from_slice-end-in-loop-k c =
    row_fits c.args.old_size.wide c.args.old_size.high _ c.min-wide.result _ (c.if-old-cells.false ∙ c.cells.ensures.0) (omega arith) (omega arith)

pub loop-k-preserved : goal.loop-k-preserved
loop-k-preserved c =
    fitted_more c.args.new_size.wide c.args.new_size.high c.args.old_size.wide c.args.old_size.high c.args.skip c.loop-k.k c.min-wide.result _
    ((c.args.skip + c.loop-k.k) * c.args.old_size.wide + c.min-wide.result - (c.args.skip + c.loop-k.k) * c.args.old_size.wide)
    c.loop-k.new c.copy_from_slice.new.self c.args.old.now
    (c.loop-k.auto.new ∙ c.fill.ensures.len ∙ (c.if-new-cells.false ∙ c.cells-else-old-cells.ensures.0)) (c.if-old-cells.false ∙ c.cells.ensures.0) c.min-wide.ensures (omega arith) (omega arith)
    (omega arith) (omega arith) c.copy_from_slice.ensures.after c.loop-k.invariant

pub returns : goal.returns
returns c = record {
  told = grind (arith, nat_tests);
  done = λ _. fitted_all c.args.new_size.wide c.args.new_size.high c.args.old_size.wide c.args.old_size.high c.args.skip c.loop-k.k c.loop-k.new c.args.old.now (omega arith) c.loop-k.invariant;
  kept = λ e. absurd (search rules);
}
