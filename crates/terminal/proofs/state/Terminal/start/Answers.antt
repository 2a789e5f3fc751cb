use Rattle.std.proofs.Common.{◌∙◌, arith}
use Rattle.std.proofs.lemmas.Bool.Decides.{nat_tests}
use Rattle.grid.proofs.Outcomes.{edited}
use Rattle.grid.proofs.Regions.{length_rows}
use Rattle.terminal.proofs.Blanked.{blanked_all}
use Rattle.terminal.proofs.state.Terminal.start.Goals as goal

pub returns : goal.returns
returns c =
    let s = c.args.size in (
      grind (arith, nat_tests),
      c.at_first.ensures.size,
      λ a. c.at_first.ensures.state c.erase_rows.new.cells a
          (edited c.erase_rows.ensures (grind (arith, nat_tests)) ∙ blanked_all s.wide s.high _ (length_rows s.wide s.high c.args.cells.now)),
    )
