use Rattle.std.proofs.Common.{sym, ap, ◌∙◌}
use Rattle.meaning.specs.Panes.{attach}
use Rattle.live.specs.Coming.{event_of}
use Rattle.live.specs.declared.coming.Coming.{Coming}
use Rattle.live.proofs.Stepping.{rests_odd, rests_not, goes_first, goes_quiet}
use Rattle.live.proofs.turn.take.Goals as goal

pub returns-then-not-is_proper-clause-does : goal.returns-then-not-is_proper-clause-does
returns-then-not-is_proper-clause-does c = rests_odd _ _ _ (sym c.if-not-is_proper.ensures)

pub returns-in-Look-clause-does : goal.returns-in-Look-clause-does
returns-in-Look-clause-does c =
    let h = rw c.in-Some-First.field-0-is at c.in-Some-First.ensures in
    let s = c.size_of.ensures in
    goes_first c.untouched.result c.args.memory.now _ _ (event_of c.args.coming c.args.bytes.now) c.size_of.result.wide c.size_of.result.high _ h.0 h.1 (sym c.if-not-is_proper.ensures)
    (ap (λ (k : Coming). event_of k c.args.bytes.now) c.in-Look.is ∙ sym (λ i. attach (s.0 i) (s.1 i))) c.untouched.ensures (c.attach_first.ensures _)

pub returns-in_default : goal.returns-in_default
returns-in_default c =
    let h = rw c.in-Some-First.field-0-is at c.in-Some-First.ensures in
    record { does = goes_quiet c.args.memory.now _ _ c.args.coming c.args.bytes.now _ h.0 h.1 (sym c.if-not-is_proper.ensures) c.in_default.not-Look (c.settle_in.ensures _); row = c.told-out }

pub returns-in-None-clause-does : goal.returns-in-None-clause-does
returns-in-None-clause-does c = rests_not _ _ _ c.in-None.ensures
