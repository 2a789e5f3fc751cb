use Rattle.std.proofs.Common.{◌≡◌, ◌<◌, ◌≤◌, ◌∷◌, length, sym, ◌∙◌, rules, arith}
use Rattle.std.proofs.lemmas.Bool.Decides.{nat_tests}
use Rattle.days.specs.Day.{lines_of}
use Rattle.days.proofs.Days.{lines_first, no_lines}
use Rattle.days.proofs.lines.LinesIterator.next.Goals as goal

pub returns-then-is_empty-clause-steps : goal.returns-then-is_empty-clause-steps
returns-then-is_empty-clause-steps c =
    let none : length c.args.self.now.0.now ≤ 0 = grind (arith, nat_tests) in
    (no_lines _ none, no_lines _ none)

pub returns-clause-steps : goal.returns-clause-steps
returns-clause-steps c =
    let some : 0 < length c.args.self.now.0.now = grind (arith, nat_tests) in
    lines_first _ some ∙ (λ i. sym c.cut.ensures.before i ∷ lines_of (sym c.cut.ensures.behind i))

pub returns-clause-goes : goal.returns-clause-goes
returns-clause-goes c =
    let some : 0 < length c.args.self.now.0.now = grind (arith, nat_tests) in
    let first : lines_of c.args.self.now.0.now ≡ c.cut.result.0.now ∷ lines_of c.cut.result.1.now = lines_first _ some ∙ (λ i. sym c.cut.ensures.before i ∷ lines_of (sym c.cut.ensures.behind i)) in
    search (rules, first)
