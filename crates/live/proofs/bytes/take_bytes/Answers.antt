use Rattle.std.proofs.Common.{◌≡◌, []}
use Rattle.std.proofs.lemmas.Bool.{ne_eqb}
use Rattle.meaning.specs.Panes.{from, turn, turn_of}
use Rattle.meaning.specs.Promise.{detaching}
use Rattle.machine.specs.States.{glass_of}
use Rattle.live.proofs.Heard.{from_other, from_nothing, bytes_pass}
use Rattle.live.proofs.bytes.take_bytes.Goals as goal
use Rattle.live.proofs.bytes.take_bytes.Goals.{in_default-via-in-Some+else-p-id, in_default-via-in_default}

pub returns-in_default : goal.returns-in_default
returns-in_default c =
    let x = c.args.x in
    let m = c.args.memory.now in
    let i = c.args.id in
    let bs = c.args.bytes.now in
    let e : turn detaching (glass_of x m) (from i bs) ≡ turn_of (glass_of x m) [] =
    elim c.in_default.branch [
      | in_default-via-in-Some+else-p-id w ↦ from_other x w.in-Some.p m bs i w.in-Some.is (ne_eqb _ _ w.if-p-id.false)
      | in_default-via-in_default w ↦ from_nothing x m bs i w.in_default.is
    ] in
    bytes_pass x m _ _ _ i _ _ e c.advance.ensures.does
