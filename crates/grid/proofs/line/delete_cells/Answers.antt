use Rattle.std.proofs.Common.{refl, ◌∙◌, arith, rules}
use Rattle.std.proofs.lemmas.Bool.Decides.{nat_tests}
use Rattle.grid.proofs.Parts.{rows_closed}
use Rattle.grid.proofs.line.delete_cells.Goals as goal

pub returns : goal.returns
returns c = record {
  told = grind (arith, nat_tests);
  done = λ _. rows_closed _ _ _ _ _ _ _ _ (omega arith) (omega arith) (c.if-cells.false ∙ c.cells.ensures.0) refl c.shift_out.ensures;
  kept = λ e. absurd (search rules);
}
