use Rattle.std.proofs.Common.{ℕ, ap, ◌∙◌, arith}
use Rattle.meaning.specs.Panes.{key}
use Rattle.meaning.specs.Promise.{comes}
use Rattle.live.proofs.Telling.{odd_key, told_key, told_from, told_gone, told_attach, told_next}
use Rattle.live.proofs.Stepping.{rests_odd, first_long, steps, other_size, short_row, other_kind}
use Rattle.live.proofs.step.Goals as goal

pub returns-in_default-clause-says : goal.returns-in_default-clause-says
returns-in_default-clause-says c = other_size _ _ _ _ _ _ c.in_default.ensures.cases

pub returns-in_default-first_chunk_mut-clause-says : goal.returns-in_default-first_chunk_mut-clause-says
returns-in_default-first_chunk_mut-clause-says c = short_row _ _ _ _ _ _ _ c.in-Some.ensures.cases c.in_default-first_chunk_mut.ensures.cases

pub returns-in-Ok-clause-says : goal.returns-in-Ok-clause-says
returns-in-Ok-clause-says c = steps _ _ _ _ _ _ _ _ _ _ _ _ c.in-Some.ensures.cases c.in-Some-first_chunk_mut.ensures.cases c.take.ensures.row (omega arith) (ap (λ (k : ℕ). comes (key k)) (omega (arith, c.in-Ok.ensures)) ∙ told_key c.args.kind c.args.a c.args.b _ c.in-0.is) c.take.ensures.does

pub returns-in-Err-clause-says : goal.returns-in-Err-clause-says
returns-in-Err-clause-says c =
    let f = c.in-Some-first_chunk_mut.ensures.cases in
    steps _ _ _ _ _ _ _ _ _ _ _ _ c.in-Some.ensures.cases f (first_long _ _ 65536 f) (omega arith) (told_key c.args.kind c.args.a c.args.b _ c.in-0.is) (rests_odd _ _ _ (odd_key c.args.a c.in-Err.ensures))

pub returns-in-1-clause-says : goal.returns-in-1-clause-says
returns-in-1-clause-says c = steps _ _ _ _ _ _ _ _ _ _ _ _ c.in-Some.ensures.cases c.in-Some-first_chunk_mut.ensures.cases c.take-in-1.ensures.row (omega arith) (told_from c.args.kind c.args.a c.args.b _ c.in-1.is) c.take-in-1.ensures.does

pub returns-in-2-clause-says : goal.returns-in-2-clause-says
returns-in-2-clause-says c = steps _ _ _ _ _ _ _ _ _ _ _ _ c.in-Some.ensures.cases c.in-Some-first_chunk_mut.ensures.cases c.take-in-2.ensures.row (omega arith) (told_gone c.args.kind c.args.a c.args.b _ c.in-2.is) c.take-in-2.ensures.does

pub returns-in-3-clause-says : goal.returns-in-3-clause-says
returns-in-3-clause-says c = steps _ _ _ _ _ _ _ _ _ _ _ _ c.in-Some.ensures.cases c.in-Some-first_chunk_mut.ensures.cases c.take-in-3.ensures.row (omega arith) (told_attach c.args.kind c.args.a c.args.b _ c.in-3.is) c.take-in-3.ensures.does

pub returns-in-4-clause-says : goal.returns-in-4-clause-says
returns-in-4-clause-says c = steps _ _ _ _ _ _ _ _ _ _ _ _ c.in-Some.ensures.cases c.in-Some-first_chunk_mut.ensures.cases c.resume.ensures.row (omega arith) (told_next c.args.kind c.args.a c.args.b _ c.in-4.is) c.resume.ensures.does

pub returns-in_default-kind-clause-says : goal.returns-in_default-kind-clause-says
returns-in_default-kind-clause-says c = other_kind _ _ _ _ _ _ _ _ c.in-Some.ensures.cases c.in-Some-first_chunk_mut.ensures.cases (omega arith)
