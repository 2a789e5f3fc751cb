use Rattle.std.proofs.Common.{rules}
use Rattle.output.specs.Added.{Adds}
use Rattle.output.proofs.Adding.{both}
use Rattle.grid.specs.Places.{spot_from}
use Rattle.render.specs.Finish.{place_bytes, finish_bytes}
use Rattle.render.proofs.finish.close.Goals as goal

pub returns-then-pen-visible-clause-added : goal.returns-then-pen-visible-clause-added
unfolding finish_bytes
returns-then-pen-visible-clause-added c =
    let s = spot_from c.args.cursor in
    let p : Adds c.args.out.now c.match-cursor.out (place_bytes c.args.pen.now s.row s.col s.shown) = search rules in
    both p (search rules)

pub returns-else-pen-visible-clause-added : goal.returns-else-pen-visible-clause-added
unfolding finish_bytes
returns-else-pen-visible-clause-added c =
    let s = spot_from c.args.cursor in
    let p : Adds c.args.out.now c.match-cursor.out (place_bytes c.args.pen.now s.row s.col s.shown) = search rules in
    both p (search rules)
