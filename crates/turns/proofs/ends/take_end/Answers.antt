use Rattle.std.proofs.Common.{◌≡◌, ℕ, [], ◌∷◌, None, subst}
use Rattle.std.proofs.lemmas.Bool.{ne_eqb}
use Rattle.meaning.specs.Panes.{Turn, turn, turn_of, gone, over}
use Rattle.meaning.specs.Promise.{core}
use Rattle.machine.specs.States.{glass_of}
use Rattle.machine.specs.declared.state.Machine.{Machine}
use Rattle.turns.proofs.Going.{stored_done}
use Rattle.turns.proofs.Gone.{emptied, without_pane, gone_last, gone_other, gone_nothing, end_goes, end_over}
use Rattle.turns.proofs.ends.take_end.Goals as goal
use Rattle.turns.proofs.ends.take_end.Goals.{in_default-via-in-Some+else-p-id, in_default-via-in_default}

pub returns-in-Some-clause-does : goal.returns-in-Some-clause-does
returns-in-Some-clause-does c =
    let x = c.args.x in
    let m = c.args.memory.now in
    let y : Machine = record x { pane = None } in
    let e = subst (λ (i : ℕ). ◌≡◌ {A = Turn} (turn core (glass_of x m) (gone i)) (turn_of (emptied (glass_of x m)) (over ∷ []))) c.if-p-id.true (gone_last core x c.in-Some.p m c.in-Some.is) in
    end_over core x y m _ _ c.args.id (without_pane x) e (stored_done _ m _ _ c.store.ensures c.told-memory)

pub returns-in_default-clause-does : goal.returns-in_default-clause-does
returns-in_default-clause-does c =
    let x = c.args.x in
    let m = c.args.memory.now in
    let e : turn core (glass_of x m) (gone c.args.id) ≡ turn_of (glass_of x m) [] =
    elim c.in_default.branch [
      | in_default-via-in-Some+else-p-id w ↦ gone_other core x w.in-Some.p m c.args.id w.in-Some.is (ne_eqb _ _ w.if-p-id.false)
      | in_default-via-in_default w ↦ gone_nothing core x m c.args.id w.in_default.is
    ] in
    end_goes core x m _ _ _ c.args.id _ e c.advance.ensures.does
