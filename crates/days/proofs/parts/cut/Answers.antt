use Rattle.std.proofs.Common.{◌≡◌, ◌+◌, ap, not, eqb, take, drop, ◌∙◌, rules, tests}
use Rattle.std.proofs.lemmas.Iterator.{YieldsList-from_slice}
use Rattle.std.proofs.lemmas.Iterator.Search.{YieldsList-from_take_while}
use Rattle.std.proofs.lemmas.Iterator.Consumers.{count_from_yields_List}
use Rattle.std.proofs.lemmas.List.Folds.{length-prefix_len}
use Rattle.days.specs.Line.{up_to}
use Rattle.days.proofs.parts.cut.Goals as goal

pub returns : goal.returns
returns c =
    let xs = c.args.bytes.now in
    let n : c.count-n.result ≡ up_to xs c.args.stop = count_from_yields_List c.take_while.result c.count-n.result c.count-n.ensures.ran
    (YieldsList-from_take_while _ (λ b. not (eqb b c.args.stop)) (YieldsList-from_slice xs cc) c.take_while.ensures.closure c.take_while.ensures.done (λ x b q k. search (rules, tests)))
    ∙ length-prefix_len (λ b. not (eqb b c.args.stop)) xs in
    record { before = ap (λ k. take k xs) n; behind = c.rest.ensures ∙ ap (λ k. drop (k + 1) xs) n }
