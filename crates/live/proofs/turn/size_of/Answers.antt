use Rattle.live.proofs.Telling.{some_size, proper_size}
use Rattle.live.proofs.turn.size_of.Goals as goal

pub unwrap-requires : goal.unwrap-requires
unwrap-requires c = some_size c.new.result _ _ c.new.ensures (proper_size c.args.columns c.args.rows c.requires)
