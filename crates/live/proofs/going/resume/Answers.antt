use Rattle.live.proofs.Stepping.{goes_on, goes_on_quiet, rests_not}
use Rattle.live.proofs.going.resume.Goals as goal

pub returns-in-Some-Is-clause-does : goal.returns-in-Some-Is-clause-does
returns-in-Some-Is-clause-does c = let h = rw c.in-Some-Is.field-0-is at c.in-Some-Is.ensures in goes_on c.in-Some-Is.x c.args.memory.now _ _ _ _ h.0 h.1 c.advance.ensures.does

pub returns-in-Some-First-clause-does : goal.returns-in-Some-First-clause-does
returns-in-Some-First-clause-does c = let h = rw c.in-Some-First.field-0-is at c.in-Some-First.ensures in goes_on_quiet c.args.memory.now _ _ _ h.0 h.1 (c.settle_in.ensures _)

pub returns-in-None-clause-does : goal.returns-in-None-clause-does
returns-in-None-clause-does c = rests_not _ _ _ c.in-None.ensures
