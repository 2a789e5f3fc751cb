-- What a step that fits, and one that doesn't, has to leave.
use Rattle.std.proofs.Common.{◌≡◌, ℕ, Bool, true, false, ◌&&◌, eqb, leb, List, length, sym, refl, subst}
use Rattle.meaning.specs.Entry.{StepSays, ActTold, step_fits}
use Rattle.meaning.specs.declared.answer.Told.TheVariants.{Wait, No}
use Rattle.engine.specs.Own.{own}
use Rattle.engine.proofs.Start.{length_start}

pub fits_is : (m : List ℕ) (kind : ℕ) (out : List ℕ) → step_fits own m kind out ≡ (eqb (length m) 238304 && (leb kind 4 && leb 65536 (length out)))
unfolding step_fits
fits_is m kind out = rw length_start

pub no_says : (m : List ℕ) (kind a b : ℕ) (bs out : List ℕ) (f : Bool) → f ≡ false → StepSays own m kind a b bs out f (No 0) m out
unfolding StepSays
no_says m kind a b bs out f e = subst (λ (v : Bool). StepSays own m kind a b bs out v (No 0) m out) (sym e) (refl, refl, refl)

pub wait_says : (m : List ℕ) (kind a b : ℕ) (bs out : List ℕ) (f : Bool) → f ≡ true → StepSays own m kind a b bs out f Wait m out
unfolding StepSays ActTold own
wait_says m kind a b bs out f e = subst (λ (v : Bool). StepSays own m kind a b bs out v Wait m out) (sym e) (refl, (refl, refl))
