use Rattle.std.proofs.Common.{refl, arith}
use Rattle.std.proofs.lemmas.Bool.{eq-eqb, ne_eqb}
use Rattle.machine.proofs.Finding.{found, no_pane}
use Rattle.machine.proofs.loading.load_used.Goals as goal
use Rattle.machine.proofs.loading.load_used.Goals.{then-head-eq1+in_ok-terminal, else-head-eq1}

pub returns-in_err-terminal : goal.returns-in_err-terminal
returns-in_err-terminal c =
    let h = rw c.unwrap-head.ensures at c.first_chunk.ensures.cases in
    rw c.from_residual-in_err-terminal.ensures (no_pane _ c.args.memory.now h.same (eq-eqb _ _ c.if-head-eq1.true) c.in_err-terminal.ensures)

pub returns : goal.returns
returns c =
    let h = rw c.unwrap-head.ensures at c.first_chunk.ensures.cases in
    let s = c.in_ok-size.ensures in
    let hd = c.unwrap-head.result.now in
    found _ c.args.memory.now _ h.same (record {
      sized = s.0;
      wide = s.1;
      high = s.2;
      attached = refl;
      prefix = refl;
      next = refl;
      pane = elim c.if-head-eq1.branch [
        | then-head-eq1+in_ok-terminal w ↦ rw w.pane-is (eq-eqb _ _ w.if-head-eq1.true, refl, w.in_ok-terminal.ensures)
        | else-head-eq1 w ↦ rw w.pane-is (ne_eqb _ _ w.if-head-eq1.false)
      ];
      pen = c.load_pen.ensures;
      few = omega arith;
      few_panes = omega arith;
    })
