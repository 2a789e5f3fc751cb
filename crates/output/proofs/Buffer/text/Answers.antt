use Rattle.std.proofs.Common.{rules}
use Rattle.std.proofs.lemmas.Slice.{overwrites}
use Rattle.output.proofs.Buffer.text.Goals as goal

pub returns-then-bytes-self-clause-added : goal.returns-then-bytes-self-clause-added
returns-then-bytes-self-clause-added c h =
    record { added = record { said = search (rules, overwrites); kept = search (rules, overwrites); far = search rules }; long = search (rules, overwrites); same_row = search rules }
