use Rattle.std.proofs.Common.{false, refl}
use Rattle.std.proofs.lemmas.Bool.{ne_eqb}
use Rattle.meaning.specs.Promise.{core}
use Rattle.engine.proofs.Keyed.{on_again, on_other}
use Rattle.turns.proofs.Prefixes.{key_goes, key_says, prefixed}
use Rattle.machine.specs.States.{glass_of}
use Rattle.turns.proofs.keys.after_prefix.Goals as goal

pub returns-then-c-eq1 : goal.returns-then-c-eq1
returns-then-c-eq1 c =
    let x = c.args.x in
    let m = c.args.memory.now in
    key_says core x (record x { prefix = false }) false m _ _ _ c.args.c _ (prefixed x false) (on_again core (glass_of x m) c.args.c c.requires.looked c.requires.prefix c.if-c-eq1.true) c.say_key.ensures

pub returns : goal.returns
returns c =
    let x = c.args.x in
    let m = c.args.memory.now in
    key_goes core x (record x { prefix = false }) false m _ _ _ c.args.c _ (prefixed x false) (on_other core (glass_of x m) c.args.c c.requires.looked c.requires.prefix (ne_eqb _ _ c.if-c-eq1.false) refl) c.advance.ensures.does
