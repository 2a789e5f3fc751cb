use Rattle.std.proofs.Common.{sym, refl, ap, ◌∙◌, arith}
use Rattle.meaning.specs.Screen.{with_reading}
use Rattle.terminal.specs.Does.{state_of}
use Rattle.terminal.proofs.Lows.{low_control, low_string, low_escape, low_cancel}
use Rattle.terminal.proofs.screen.Screen.control_byte.Goals as goal

pub returns-in-27 : goal.returns-in-27
returns-in-27 c = record { term = sym (low_escape (state_of c.args.self.now) c.args.b (sym c.if-in_string.ensures) c.in-27.is); same_row = refl; same_answer = refl }

pub returns-in-24 : goal.returns-in-24
returns-in-24 c = record { term = sym (low_cancel (state_of c.args.self.now) c.args.b (sym c.if-in_string.ensures) c.in-24.is); same_row = refl; same_answer = refl }

pub returns-in_default : goal.returns-in_default
returns-in_default c = record {
  term = c.control_character.ensures.term ∙ sym (low_control (state_of c.args.self.now) c.args.b (sym c.if-in_string.ensures) (grind arith) (grind arith) (grind arith));
  same_row = c.control_character.ensures.same_row;
  same_answer = c.control_character.ensures.same_answer;
}

pub returns-then-in_string : goal.returns-then-in_string
returns-then-in_string c = record {
  term = ap (with_reading (state_of c.args.self.now)) c.string_byte-self.ensures ∙ sym (low_string (state_of c.args.self.now) c.args.b (sym c.if-in_string.ensures));
  same_row = refl;
  same_answer = refl;
}
