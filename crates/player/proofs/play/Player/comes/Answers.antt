use Rattle.std.proofs.Common.{◌≡◌, vec_items, map-id, ◌∙◌}
use Rattle.std.proofs.lemmas.Slice.Zip.{AllZip-map}
use Rattle.player.proofs.Playing.{plays}
use Rattle.player.proofs.play.Player.comes.Goals as goal

pub returns : goal.returns
returns c =
    let cells = vec_items c.attend.new.self.screen.cells in
    let copied : vec_items c.in_ok-before.before ≡ cells = AllZip-map (λ x. x) cells _ c.in_ok-before.ensures.cases.0 ∙ map-id cells in
    plays _ _ _ _ _ _ _ _ _ (c.in_ok-attend.ensures _) (c.as_slice.ensures.value ∙ copied) c.in_ok-over.ensures c.in_ok-see.ensures c.in_ok-judge.ensures
