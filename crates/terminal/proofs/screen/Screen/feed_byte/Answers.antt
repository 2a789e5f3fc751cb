use Rattle.std.proofs.Common.{sym, ◌∙◌, refl, arith}
use Rattle.terminal.specs.Does.{state_of}
use Rattle.terminal.proofs.Feeding.{nothing_said, quietly}
use Rattle.terminal.proofs.Lows.{byte_low, byte_delete, byte_high}
use Rattle.terminal.proofs.screen.Screen.feed_byte.Goals as goal

pub returns-in-0-to-31 : goal.returns-in-0-to-31
returns-in-0-to-31 c = quietly 10 (λ t. byte_low t c.args.b (omega arith)) c.control_byte.ensures

pub returns-in-127 : goal.returns-in-127
returns-in-127 c = record { term = sym (byte_delete (state_of c.args.self.now) c.args.b c.in-127.is); same_row = refl; answer = nothing_said 10 _; same_answer = refl }

pub returns-in_default : goal.returns-in_default
returns-in_default c =
    let r = c.read.ensures in
    record { term = r.term ∙ sym (byte_high (state_of c.args.self.now) c.args.b (omega arith) (λ e. omega arith)); same_row = r.same_row; answer = r.answer; same_answer = r.same_answer }
