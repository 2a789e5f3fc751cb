use Rattle.std.proofs.Common.{refl, ◌∙◌, arith, rules}
use Rattle.std.proofs.lemmas.Bool.Decides.{nat_tests}
use Rattle.grid.proofs.Regions.{rows_scrolled_up, row_starts_in}
use Rattle.grid.proofs.rows.scroll_up.Goals as goal

pub slice_bounds-shift_out-end : goal.slice_bounds-shift_out-end
slice_bounds-shift_out-end c = row_starts_in _ c.args.size.high _ _ (c.if-cells.false ∙ c.cells.ensures.0) (omega arith)

pub returns : goal.returns
returns c = record {
  told = grind (arith, nat_tests);
  done = λ _. rows_scrolled_up _ _ _ _ _ _ _ _ _ (omega arith) (omega arith) (c.if-cells.false ∙ c.cells.ensures.0) c.min.ensures refl c.shift_out.ensures;
  kept = λ e. absurd (search rules);
}
