use Rattle.serve.proofs.Promise.{as_promised}
use Rattle.serve.proofs.as_promised_stands.Goals as goal

pub returns : goal.returns
returns c = as_promised
