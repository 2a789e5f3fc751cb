use Rattle.std.proofs.Common.{true}
use Rattle.std.proofs.lemmas.Bool.{ne_eqb, not-true, not-false}
use Rattle.machine.specs.States.{glass_of}
use Rattle.meaning.specs.Promise.{core}
use Rattle.engine.proofs.Keyed.{on_unseen, on_prefix, on_plain}
use Rattle.turns.proofs.Prefixes.{key_goes, key_says, prefixed, as_it_is}
use Rattle.turns.proofs.keys.take_key.Goals as goal

pub returns-then-not-x-clause-does : goal.returns-then-not-x-clause-does
returns-then-not-x-clause-does c =
    let x = c.args.x in
    let m = c.args.memory.now in
    key_goes core x x _ m _ _ _ c.args.c _ (as_it_is x) (on_unseen core (glass_of x m) c.args.c (not-true _ c.if-not-x.true)) c.advance.ensures.does

pub returns-then-c-eq1-clause-does : goal.returns-then-c-eq1-clause-does
returns-then-c-eq1-clause-does c =
    let x = c.args.x in
    let m = c.args.memory.now in
    key_goes core x (record x { prefix = true }) true m _ _ _ c.args.c _ (prefixed x true) (on_prefix core (glass_of x m) c.args.c (not-false _ c.if-not-x.false) c.if-x.false c.if-c-eq1.true) c.advance-then-c-eq1.ensures.does

pub returns-clause-does : goal.returns-clause-does
returns-clause-does c =
    let x = c.args.x in
    let m = c.args.memory.now in
    key_says core x x _ m _ _ _ c.args.c _ (as_it_is x) (on_plain core (glass_of x m) c.args.c (not-false _ c.if-not-x.false) c.if-x.false (ne_eqb _ _ c.if-c-eq1.false)) c.say_key.ensures
