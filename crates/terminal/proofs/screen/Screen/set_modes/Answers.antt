use Rattle.std.proofs.Common.{◌+◌, drop, sym, ap, ◌∙◌}
use Rattle.std.proofs.lemmas.List.{at_drop_more, at_drop_all}
use Rattle.meaning.specs.Screen.{Term}
use Rattle.meaning.specs.Bytes.{modes}
use Rattle.terminal.specs.Does.{state_of}
use Rattle.terminal.proofs.screen.Screen.set_modes.Goals as goal

pub loop-n-preserved : goal.loop-n-preserved
unfolding modes
loop-n-preserved c = record {
  term = ap (λ (t : Term). modes c.args.on c.args.private t (drop (c.loop-n.n-index + 1) c.args.numbers.now)) c.set_mode.ensures.term
      ∙ (sym (at_drop_more (modes c.args.on c.args.private (state_of c.loop-n.self)) c.args.numbers.now c.loop-n.n-index 0 c.loop-n-test.true) ∙ c.loop-n.invariant.term);
  same_row = c.set_mode.ensures.same_row ∙ c.loop-n.invariant.same_row;
  same_answer = c.set_mode.ensures.same_answer ∙ c.loop-n.invariant.same_answer;
}

pub returns : goal.returns
unfolding modes
returns c = record {
  term = sym (at_drop_all (modes c.args.on c.args.private (state_of c.loop-n.self)) c.args.numbers.now c.loop-n.n-index c.loop-n-test.false) ∙ c.loop-n.invariant.term;
  same_row = c.loop-n.invariant.same_row;
  same_answer = c.loop-n.invariant.same_answer;
}
