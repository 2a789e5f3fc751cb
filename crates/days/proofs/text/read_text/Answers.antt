use Rattle.std.proofs.Common.{sym, refl, ap, ◌∙◌, inr, rules}
use Rattle.std.proofs.lemmas.Bool.{cond-true, cond-false}
use Rattle.days.specs.Text.{is_plain, whole_text}
use Rattle.days.proofs.Escapes.{read_more, read_done, printed_again, not_at_end}
use Rattle.days.proofs.text.read_text.Goals as goal
use Rattle.days.proofs.text.read_text.Goals.{in-Some+in_ok-push, in_default}

pub loop-c-preserved : goal.loop-c-preserved
loop-c-preserved c =
    let i = c.loop-c.c-index in
    let s = c.step-next.ensures in
    elim c.match-byte.branch [
      | in-Some+in_ok-push w ↦ (read_more _ c.args.text.now i _ _ _ c.loop-c-test.true (w.mode-is ∙ s.mode) s.byte (search rules) ∙ c.loop-c.invariant.0, rw w.mode-is s.fits)
      | in_default w ↦ (read_more _ c.args.text.now i _ _ _ c.loop-c-test.true (w.mode-is ∙ s.mode) s.byte (search rules) ∙ c.loop-c.invariant.0, rw w.mode-is s.fits)
    ]

pub returns-in-Plain : goal.returns-in-Plain
returns-in-Plain c =
    let done = sym c.loop-c.invariant.0 ∙ read_done _ c.args.text.now _ c.loop-c-test.false in
    record { value = ap whole_text done ∙ cond-true _ _ _ (ap is_plain c.in-Plain.is); again = printed_again _ _ }

pub returns-in_default-mode : goal.returns-in_default-mode
returns-in_default-mode c =
    let done = sym c.loop-c.invariant.0 ∙ read_done _ c.args.text.now _ c.loop-c-test.false in
    record { value = inr (refl, ap whole_text done ∙ cond-false _ _ _ (not_at_end _ c.in_default-mode.not-Plain)); again = tt }
