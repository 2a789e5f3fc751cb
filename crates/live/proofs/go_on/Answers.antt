use Rattle.std.proofs.Common.{◌∙◌, rules}
use Rattle.live.proofs.Stepping.{tells, tells_no, sizes_wrong, row_short}
use Rattle.live.proofs.go_on.Goals as goal
use Rattle.live.proofs.go_on.Goals.{in_default-via-in-None-1, in_default-via-in-Some+in-None-1}

pub returns-clause-says : goal.returns-clause-says
returns-clause-says c = tells _ _ _ _ _ _ _ _ c.in-Some.ensures.cases c.in-Some-first_chunk_mut.ensures.cases c.resume.ensures.row c.resume.ensures.does

pub returns-2-clause-says : goal.returns-2-clause-says
returns-2-clause-says c = elim c.in_default.branch [
  | in_default-via-in-None-1 w ↦ tells_no _ _ _ _ _ (sizes_wrong _ _ (λ e. search rules)) w.memory-is w.out-is
  | in_default-via-in-Some+in-None-1 w ↦ tells_no _ _ _ _ _ (row_short _ _ (search rules)) (w.memory-is ∙ w.in-Some.ensures.cases.same) w.out-is
]
