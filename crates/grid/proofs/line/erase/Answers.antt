use Rattle.std.proofs.Common.{refl, ◌∙◌, arith, rules}
use Rattle.std.proofs.lemmas.Bool.Decides.{nat_tests}
use Rattle.grid.proofs.Parts.{rows_wiped, rows_wiped_none}
use Rattle.grid.proofs.line.erase.Goals as goal

pub returns-then-first-end : goal.returns-then-first-end
returns-then-first-end c = record {
  told = grind (arith, nat_tests);
  done = λ _. rows_wiped _ _ _ _ _ _ _ _ (omega arith) (c.if-cells.false ∙ c.cells.ensures.0) c.min-end.ensures c.if-first-end.true (c.fill.ensures.after (λ y e. e));
  kept = λ e. absurd (search rules);
}

pub returns-else-first-end : goal.returns-else-first-end
returns-else-first-end c = record {
  told = grind (arith, nat_tests);
  done = λ _. rows_wiped_none _ _ _ _ _ _ (omega arith) (c.if-cells.false ∙ c.cells.ensures.0) (omega arith);
  kept = λ e. refl;
}
