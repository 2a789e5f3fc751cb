use Rattle.std.proofs.Common.{refl, ◌&&◌, ◌∙◌, rules, tests}
use Rattle.std.specs.List.{list_all}
use Rattle.std.proofs.lemmas.Iterator.{YieldsList-from_slice}
use Rattle.std.proofs.lemmas.Iterator.Search.{all_from_yields_List}
use Rattle.std.proofs.lemmas.List.Recursion.{same_from_clauses}
use Rattle.days.specs.Line.{is_blank, all_blank}
use Rattle.days.proofs.reading.all_spaces.Goals as goal

pub returns : goal.returns
returns c =
    let xs = c.args.line.now in
    all_from_yields_List is_blank _ _ _ c.all.ensures.ran (YieldsList-from_slice xs cc) (λ x b q k. search (rules, tests))
    ∙ same_from_clauses (list_all is_blank) all_blank (λ x b. is_blank x && b) refl (λ _ _. refl) (λ _ _. refl) xs
