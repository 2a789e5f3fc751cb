use Rattle.meaning.proofs.in_parts_stands.Goals as goal
use Rattle.meaning.proofs.Parts.{in_parts}

pub returns : goal.returns
returns c = in_parts
