use Rattle.std.proofs.Common.{◌≡◌, ◌||◌, refl, ◌∙◌, rules, tests}
use Rattle.std.specs.List.{list_any}
use Rattle.std.proofs.lemmas.Iterator.{YieldsList-from_slice}
use Rattle.std.proofs.lemmas.Iterator.Search.{any_from_yields_List}
use Rattle.std.proofs.lemmas.List.Recursion.{same_from_clauses}
use Rattle.meaning.specs.Words.{any}
use Rattle.player.specs.Grants.{is_leave}
use Rattle.player.proofs.Counting.{attached_still}
use Rattle.player.proofs.count.attached_after.Goals as goal

pub returns-then-attached : goal.returns-then-attached
returns-then-attached c =
    let rs = c.args.acts.now in
    let left : c.any.result ≡ any is_leave rs = any_from_yields_List is_leave _ _ _ c.any.ensures.ran (YieldsList-from_slice rs cc) (λ x b q k. search (rules, tests))
    ∙ same_from_clauses (list_any is_leave) (any is_leave) (λ x b. is_leave x || b) refl (λ _ _. refl) (λ _ _. refl) rs in
    attached_still rs c.args.attached c.any.result left c.if-attached.true
