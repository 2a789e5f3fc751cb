use Rattle.std.proofs.Common.{refl, ◌∙◌, arith, rules}
use Rattle.std.proofs.lemmas.Bool.Decides.{nat_tests}
use Rattle.grid.proofs.Parts.{rows_opened}
use Rattle.grid.proofs.line.insert_blanks.Goals as goal

pub returns : goal.returns
returns c = record {
  told = grind (arith, nat_tests);
  done = λ _. rows_opened _ _ _ _ _ _ _ _ (omega arith) (omega arith) (c.if-cells.false ∙ c.cells.ensures.0) refl c.shift_in.ensures;
  kept = λ e. absurd (search rules);
}
