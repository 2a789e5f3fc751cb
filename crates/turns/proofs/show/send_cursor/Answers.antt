use Rattle.std.proofs.Common.{arith}
use Rattle.grid.specs.Places.{spot_from}
use Rattle.turns.proofs.Lent.{sent_cursor}
use Rattle.turns.proofs.show.send_cursor.Goals as goal

pub returns : goal.returns
returns c = λ rs a i n p.
    sent_cursor c.args.size.wide c.args.size.high (spot_from c.cursor_of.result) _ c.args.out.now c.finish.new.out c.args.pen.now c.finish.new.pen c.finish.result
    (omega arith) (c.cursor_of.ensures rs a i n p) c.finish.ensures
