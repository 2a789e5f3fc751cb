use Rattle.std.proofs.Common.{ap, rules}
use Rattle.meaning.specs.Screen.{Term}
use Rattle.grid.proofs.Regions.{length_rows}
use Rattle.terminal.proofs.Blanked.{blanked_below, blanked_all}
use Rattle.terminal.proofs.screen.Screen.erase_in_display.Goals as goal

pub returns-in-ToEnd : goal.returns-in-ToEnd
returns-in-ToEnd c =
    let s = c.args.self.now.term in
    let l = ap (λ (t : Term). t.rows) c.erase_in_line.ensures.term in
    let b = blanked_below s.size.wide _ s.cursor.row _ (length_rows s.size.wide s.size.high c.erase_in_line.new.self.cells.now) in
    search rules

pub returns-in-All : goal.returns-in-All
returns-in-All c =
    let s = c.args.self.now in
    let b = blanked_all s.term.size.wide _ _ (length_rows s.term.size.wide s.term.size.high s.cells.now) in
    search rules
