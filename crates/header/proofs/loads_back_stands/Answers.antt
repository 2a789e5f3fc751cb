use Rattle.header.proofs.Laws.{header_long, loads_back}
use Rattle.header.proofs.loads_back_stands.Goals as goal

pub returns : goal.returns
returns c = record { long = header_long; back = loads_back }
