use Rattle.std.proofs.Common.{List, ℕ, sym, refl, ap, ◌∙◌, arith}
use Rattle.meaning.specs.Screen.{with_reading}
use Rattle.meaning.specs.Bytes.{back_to_ground, done_sequence}
use Rattle.terminal.specs.Does.{state_of}
use Rattle.terminal.specs.Terms.{numbers_of, begun_of}
use Rattle.terminal.proofs.Lows.{sequence_low, sequence_done}
use Rattle.terminal.proofs.Feeding.{nothing_said}
use Rattle.terminal.proofs.screen.Screen.sequence_byte.Goals as goal

pub returns-then-b-lt64 : goal.returns-then-b-lt64
returns-then-b-lt64 c =
    let t = state_of c.args.self.now in
    record {
      term = ap (with_reading t) c.parameter_byte-self.ensures ∙ sym (sequence_low t c.args.private (numbers_of c.args.p) (begun_of c.args.p.begun) c.args.b (omega arith));
      same_row = refl;
      answer = nothing_said 10 _;
      same_answer = refl;
    }

pub returns : goal.returns
returns c =
    let t = state_of c.args.self.now in
    let d = c.dispatch.ensures in
    record {
      term = d.term
          ∙ (ap (λ (l : List ℕ). done_sequence (back_to_ground t) c.args.private l c.args.b) c.all-all.ensures
          ∙ sym (sequence_done t c.args.private (numbers_of c.args.p) (begun_of c.args.p.begun) c.args.b (omega arith)));
      same_row = d.same_row;
      answer = d.answer;
      same_answer = d.same_answer;
    }
