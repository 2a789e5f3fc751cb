-- A program's end, case by case.
use Rattle.std.proofs.Common.{◌≡◌, ℕ, Bool, false, eqb, List, [], ◌∷◌, Some, None, sym, refl, ap, ◌∙◌, subst}
use Rattle.std.proofs.lemmas.Bool.{eq-eqb}
use Rattle.meaning.specs.Panes.{Glass, gone, over, turn, turn_of, settled, fit_places, places, without, gone_before, ids}
use Rattle.meaning.specs.Entry.{ActTold, SaysTold}
use Rattle.meaning.specs.declared.answer.Told.{Told}
use Rattle.meaning.specs.declared.answer.Told.TheVariants.{Over}
use Rattle.engine.specs.State.{View, Out, state, going, said_or_going, view_at}
use Rattle.engine.specs.Memory.{encode}
use Rattle.machine.specs.States.{glass_of, view_of}
use Rattle.machine.specs.declared.state.Held.{Held}
use Rattle.machine.specs.declared.state.Machine.{Machine}
use Rattle.turns.specs.Does.{Does}
use Rattle.turns.specs.Turned.{then_goes, turned_by}

-- a glass whose last pane has gone
abbrev pub emptied : Glass → Glass
emptied g = record { wide = g.wide; high = g.high; attached = g.attached; windows = []; at = 0; panes = []; next = g.next; prefix = g.prefix }

-- the machine x without its pane
pub record Emptied (x : Machine) (y : Machine) : Type 0 where
  pub glass : (m : List ℕ) → glass_of y m ≡ emptied (glass_of x m)
  pub view : (m : List ℕ) → view_of y m ≡ view_of x m

pub without_pane : (x : Machine) → Emptied x (record x { pane = None })
without_pane x = record { glass = λ m. refl; view = λ m. refl }

pub gone_last : (known : ℕ → Bool) (x : Machine) (p : Held) (m : List ℕ) → x.pane ≡ Some p → turn known (glass_of x m) (gone p.id) ≡ turn_of (emptied (glass_of x m)) (over ∷ [])
unfolding turn settled fit_places places without gone_before ids
gone_last known x p m e = rw e (simp (eq-eqb p.id p.id refl))

pub gone_other : (known : ℕ → Bool) (x : Machine) (p : Held) (m : List ℕ) (i : ℕ) → x.pane ≡ Some p → eqb p.id i ≡ false → turn known (glass_of x m) (gone i) ≡ turn_of (glass_of x m) []
unfolding turn
gone_other known x p m i e n = rw e (simp n)

pub gone_nothing : (known : ℕ → Bool) (x : Machine) (m : List ℕ) (i : ℕ) → x.pane ≡ None → turn known (glass_of x m) (gone i) ≡ turn_of (glass_of x m) []
unfolding turn
gone_nothing known x m i e = rw e

pub end_goes : (known : ℕ → Bool) (x : Machine) (m m₁ ys ys₁ : List ℕ) (i : ℕ) (r : Told) → turn known (glass_of x m) (gone i) ≡ turn_of (glass_of x m) []
    → Does (going (glass_of x m) (view_of x m)) m m₁ r ys ys₁ → Does (turned_by known x m (gone i)) m m₁ r ys ys₁
unfolding said_or_going view_at
end_goes known x m m₁ ys ys₁ i r e d = subst (λ (o : Out). Does o m m₁ r ys ys₁) (ap (then_goes (view_of x m)) (sym e)) d

pub end_over : (known : ℕ → Bool) (x y : Machine) (m m₁ ys : List ℕ) (i : ℕ) → Emptied x y → turn known (glass_of x m) (gone i) ≡ turn_of (emptied (glass_of x m)) (over ∷ [])
    → m₁ ≡ encode m (state (glass_of y m) (view_of y m)) → Does (turned_by known x m (gone i)) m m₁ Over ys ys
unfolding said_or_going view_at ActTold SaysTold
end_over known x y m m₁ ys i q e h =
    subst (λ (o : Out). Does o m m₁ Over ys ys) (ap (then_goes (view_of x m)) (sym e))
    (record { memory = h ∙ ap (λ (g : Glass). encode m (state g (view_of y m))) (q.glass m) ∙ ap (λ (v : View). encode m (state (emptied (glass_of x m)) v)) (q.view m); act = (refl, refl) })
