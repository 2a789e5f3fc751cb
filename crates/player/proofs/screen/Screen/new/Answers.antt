use Rattle.player.proofs.Writing.{begun}
use Rattle.player.proofs.screen.Screen.new.Goals as goal

pub returns : goal.returns
returns c =
    let e = rw c.unwrap-term.ensures at c.start.ensures in
    begun c.args.size c.unwrap-term.result c.in_ok-cells.cells _ _ c.as_mut_slice.ensures.value c.start.auto.cells e.0 e.1 e.2
