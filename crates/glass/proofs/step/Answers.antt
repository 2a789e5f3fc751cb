use Rattle.std.proofs.Common.{sym, ◌∙◌}
use Rattle.glass.proofs.Steps.{no_says, wait_says}
use Rattle.glass.proofs.step.Goals as goal

pub returns-then-not-fits : goal.returns-then-not-fits
returns-then-not-fits c = record { says = no_says _ _ _ _ _ _ _ (sym c.fits.ensures ∙ c.if-not-fits.true) }

pub returns : goal.returns
returns c = record { says = wait_says _ _ _ _ _ _ _ (sym c.if-not-fits.ensures) }
