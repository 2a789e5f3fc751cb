use Rattle.std.proofs.Common.{ap, ◌∙◌, rules}
use Rattle.meaning.specs.Words.{pick}
use Rattle.meaning.specs.Screen.{Term, at, row_on, put_sign, step_right, printed}
use Rattle.terminal.specs.Does.{Does}
use Rattle.terminal.proofs.screen.Screen.print.Goals as goal
use Rattle.terminal.proofs.screen.Screen.print.Goals.{then-self, else-self}

pub returns : goal.returns
unfolding printed
returns c =
    let d : Does c.args.self.now c.if-self.self (λ t. pick t.late (at (row_on t) (row_on t).row 0) t) =
    elim c.if-self.branch [ then-self w ↦ search rules | else-self w ↦ search rules ] in
    record {
      term = c.advance.ensures.term ∙ ap step_right (c.put.ensures.term ∙ ap (λ (t : Term). put_sign t c.args.sign) d.term);
      same_row = c.advance.ensures.same_row ∙ (c.put.ensures.same_row ∙ d.same_row);
      same_answer = c.advance.ensures.same_answer ∙ (c.put.ensures.same_answer ∙ d.same_answer);
    }
