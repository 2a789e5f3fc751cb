use Rattle.std.proofs.Common.{refl, ◌∙◌, arith}
use Rattle.std.proofs.lemmas.Bool.Decides.{nat_tests}
use Rattle.grid.proofs.Outcomes.{edited}
use Rattle.grid.proofs.Regions.{length_rows}
use Rattle.terminal.proofs.Blanked.{blanked_all}
use Rattle.terminal.proofs.screen.Screen.reset.Goals as goal

pub returns : goal.returns
returns c =
    let s = c.args.self.now in
    let z = s.term.size in
    record {
      term = c.at_first-self.ensures.state c.erase_rows.new.cells _ (edited c.erase_rows.ensures (grind (arith, nat_tests)) ∙ blanked_all z.wide z.high _ (length_rows z.wide z.high s.cells.now));
      same_row = refl;
      same_answer = refl;
    }
