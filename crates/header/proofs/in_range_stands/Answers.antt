use Rattle.header.proofs.Ranges.{loaded_in_range, stays_in_range, fitted_in_range, fresh_in_range}
use Rattle.header.proofs.in_range_stands.Goals as goal

pub returns : goal.returns
returns c = record { loaded = loaded_in_range; stays = stays_in_range; fitted = fitted_in_range; fresh = fresh_in_range }
