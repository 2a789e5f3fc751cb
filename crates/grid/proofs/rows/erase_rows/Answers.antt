use Rattle.std.proofs.Common.{◌∙◌, arith, rules}
use Rattle.std.proofs.lemmas.Bool.Decides.{nat_tests}
use Rattle.grid.proofs.Regions.{rows_filled, row_starts_in}
use Rattle.grid.proofs.rows.erase_rows.Goals as goal

pub slice_bounds-fill-end : goal.slice_bounds-fill-end
slice_bounds-fill-end c = row_starts_in _ c.args.size.high _ _ (c.if-cells.false ∙ c.cells.ensures.0) (omega arith)

pub returns : goal.returns
returns c = record {
  told = grind (arith, nat_tests);
  done = λ _. rows_filled _ _ _ _ _ _ (omega arith) (omega arith) (c.if-cells.false ∙ c.cells.ensures.0) (c.fill.ensures.after (λ y e. e));
  kept = λ e. absurd (search rules);
}
