use Rattle.std.proofs.Common.{sym, ap, ◌∙◌}
use Rattle.meaning.specs.Panes.{key, from, gone, attach}
use Rattle.live.specs.Coming.{event_of}
use Rattle.live.specs.declared.coming.Coming.{Coming}
use Rattle.live.proofs.Telling.{few_bytes}
use Rattle.live.proofs.Stepping.{goes_turned, end_turned}
use Rattle.live.proofs.turn.take_turn.Goals as goal

pub take_bytes-requires : goal.take_bytes-requires
take_bytes-requires c = few_bytes c.args.coming c.args.bytes.now _ c.in-From.is c.requires.proper

pub returns-in-Key : goal.returns-in-Key
returns-in-Key c =
    goes_turned c.args.x c.args.memory.now _ _ _ (event_of c.args.coming c.args.bytes.now) (key c.in-Key.c) _ c.requires.holds.0 c.requires.holds.1 c.requires.proper
    (ap (λ (k : Coming). event_of k c.args.bytes.now) c.in-Key.is) c.take_key.ensures

pub returns-in-From : goal.returns-in-From
returns-in-From c =
    goes_turned c.args.x c.args.memory.now _ _ _ (event_of c.args.coming c.args.bytes.now) (from c.in-From.id c.args.bytes.now) _ c.requires.holds.0 c.requires.holds.1 c.requires.proper
    (ap (λ (k : Coming). event_of k c.args.bytes.now) c.in-From.is) c.take_bytes.ensures

pub returns-in-Gone : goal.returns-in-Gone
returns-in-Gone c =
    goes_turned c.args.x c.args.memory.now _ _ _ (event_of c.args.coming c.args.bytes.now) (gone c.in-Gone.id) _ c.requires.holds.0 c.requires.holds.1 c.requires.proper
    (ap (λ (k : Coming). event_of k c.args.bytes.now) c.in-Gone.is) (end_turned c.args.x c.args.memory.now _ _ _ _ _ c.take_end.ensures.does)

pub returns-in-Look : goal.returns-in-Look
returns-in-Look c =
    let s = c.size_of.ensures in
    goes_turned c.args.x c.args.memory.now _ _ _ (event_of c.args.coming c.args.bytes.now) (attach c.size_of.result.wide c.size_of.result.high) _ c.requires.holds.0 c.requires.holds.1 c.requires.proper
    (ap (λ (k : Coming). event_of k c.args.bytes.now) c.in-Look.is ∙ sym (λ i. attach (s.0 i) (s.1 i))) c.take_size.ensures
