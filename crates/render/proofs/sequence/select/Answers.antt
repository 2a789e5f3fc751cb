use Rattle.std.proofs.Common.{arith}
use Rattle.output.proofs.Adding.{both}
use Rattle.render.specs.Sequences.{graphic_rendition}
use Rattle.render.proofs.sequence.select.Goals as goal

pub returns-clause-added : goal.returns-clause-added
unfolding graphic_rendition
returns-clause-added c =
    let p = c.text.ensures.added (omega arith) in
    let f = p.added.far in
    let l = p.long in
    let q = c.push.ensures.added (omega arith) in
    both p (both c.add_if.ensures.added (both c.add_if-2.ensures.added (both c.add_if-3.ensures.added (both c.add_parameter.ensures.added (both c.add_parameter-2.ensures.added q)))))
