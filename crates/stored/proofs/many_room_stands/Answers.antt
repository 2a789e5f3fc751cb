use Rattle.stored.proofs.many_room_stands.Goals as goal
use Rattle.stored.proofs.Accepted.{many_room}

pub returns : goal.returns
returns c = many_room
