use Rattle.std.proofs.Common.{length, vec_items, ap, ◌∙◌}
use Rattle.std.proofs.lemmas.List.{length_push}
use Rattle.std.proofs.lemmas.Iterator.Consumers.{YieldsList-turn, YieldsList-end}
use Rattle.days.specs.declared.lines.Lines.{Lines}
use Rattle.days.proofs.Days.{all_lines, one_line_on, line_is_bad, all_read}
use Rattle.days.proofs.day.read_day.Goals as goal

pub returns-in-Err : goal.returns-in-Err
returns-in-Err c =
    let all = all_lines c.args.text.now _ (ap (λ (l : Lines). l.0.now) c.into_iter-text-iterator.ensures.into_iter_gives) in
    let turn = YieldsList-turn all c.loop-text.yielded c.loop-text.text-iterator c.loop-text.yielded_by c.next.result c.next.new.self c.in-Some.text c.in-Some.is c.next.ensures.steps in
    line_is_bad c.args.text.now c.in-Some.text.now (vec_items c.loop-text.day) (length c.loop-text.yielded) c.loop-text.invariant turn.0 turn.1 _ _ (c.len-line.ensures ∙ c.loop-text.day.ok.0) c.in-Err.ensures

pub loop-text-preserved : goal.loop-text-preserved
loop-text-preserved c =
    let all = all_lines c.args.text.now _ (ap (λ (l : Lines). l.0.now) c.into_iter-text-iterator.ensures.into_iter_gives) in
    let turn = YieldsList-turn all c.loop-text.yielded c.loop-text.text-iterator c.loop-text.yielded_by c.next.result c.next.new.self c.in-Some.text c.in-Some.is c.next.ensures.steps in
    rw (length_push c.loop-text.yielded c.in-Some.text) (one_line_on c.args.text.now c.in-Some.text.now (vec_items c.loop-text.day) (length c.loop-text.yielded) c.loop-text.invariant turn.0 turn.1 (vec_items c.keep.new.day) c.in_default.ensures)

pub returns : goal.returns
returns c =
    let all = all_lines c.args.text.now _ (ap (λ (l : Lines). l.0.now) c.into_iter-text-iterator.ensures.into_iter_gives) in
    let end = YieldsList-end all c.loop-text.yielded c.loop-text.text-iterator c.loop-text.yielded_by c.next.result c.next.new.self c.in-None.is c.next.ensures.steps in
    all_read c.args.text.now (vec_items c.loop-text.day) (length c.loop-text.yielded) c.loop-text.invariant end.1
