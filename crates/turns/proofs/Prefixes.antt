-- Keys, case by case.
use Rattle.std.proofs.Common.{◌≡◌, ℕ, ◌+◌, ◌*◌, ◌<◌, Bool, List, [], ◌∷◌, ◌++◌, length, drop, set, sym, refl, ap, ◌∙◌, subst, arith}
use Rattle.meaning.specs.Panes.{Glass, key, send, turn, turn_of, with_prefix, current}
use Rattle.meaning.specs.Promise.{says}
use Rattle.meaning.specs.Entry.{ActTold, SaysTold}
use Rattle.meaning.specs.declared.answer.Told.{Told}
use Rattle.meaning.specs.declared.answer.Told.TheVariants.{Send}
use Rattle.engine.specs.State.{View, Out, state, out, going, said_or_going, view_at}
use Rattle.engine.specs.Memory.{encode}
use Rattle.machine.specs.States.{glass_of, view_of}
use Rattle.machine.specs.declared.state.Machine.{Machine}
use Rattle.turns.specs.Does.{Does}
use Rattle.turns.specs.Turned.{then_goes, turned_by}

-- the machine x with the prefix key come, or not
pub record Prefixed (x : Machine) (p : Bool) (y : Machine) : Type 0 where
  pub glass : (m : List ℕ) → glass_of y m ≡ with_prefix (glass_of x m) p
  pub view : (m : List ℕ) → view_of y m ≡ view_of x m

pub first_set : (ys : List ℕ) (c : ℕ) → 0 < length ys → set ys 0 c ≡ (c ∷ []) ++ drop 1 ys
first_set [] c h = absurd (omega arith)
first_set (y ∷ ys) c h = refl

pub send_told : (i c : ℕ) (ys : List ℕ) → 0 < length ys → SaysTold (send i (c ∷ [])) (Send (65536 * i + 1)) ys (set ys 0 c)
unfolding SaysTold
send_told i c ys h = (refl, first_set ys c h)

pub say_does : (x : Machine) (m m₁ ys ys₁ : List ℕ) (i c : ℕ) (r : Told) → m₁ ≡ encode m (state (glass_of x m) (view_of x m)) → i ≡ (current (glass_of x m)).focus
    → SaysTold (send i (c ∷ [])) r ys ys₁ → Does (out (glass_of x m) (view_of x m) (says (send (current (glass_of x m)).focus (c ∷ [])))) m m₁ r ys ys₁
unfolding ActTold
say_does x m m₁ ys ys₁ i c r e f s = record { memory = e; act = subst (λ (j : ℕ). SaysTold (send j (c ∷ [])) r ys ys₁) f s }

-- the machine goes on after a key, or says it
pub key_goes : (known : ℕ → Bool) (x y : Machine) (p : Bool) (m m₁ ys ys₁ : List ℕ) (c : ℕ) (r : Told) → Prefixed x p y → turn known (glass_of x m) (key c) ≡ turn_of (with_prefix (glass_of x m) p) []
    → Does (going (glass_of y m) (view_of y m)) m m₁ r ys ys₁ → Does (turned_by known x m (key c)) m m₁ r ys ys₁
unfolding said_or_going view_at
key_goes known x y p m m₁ ys ys₁ c r q e d =
    subst (λ (o : Out). Does o m m₁ r ys ys₁)
    (ap (λ (g : Glass). going g (view_of y m)) (q.glass m) ∙ ap (going (with_prefix (glass_of x m) p)) (q.view m) ∙ ap (then_goes (view_of x m)) (sym e)) d

pub key_says : (known : ℕ → Bool) (x y : Machine) (p : Bool) (m m₁ ys ys₁ : List ℕ) (c : ℕ) (r : Told) → Prefixed x p y
    → turn known (glass_of x m) (key c) ≡ turn_of (with_prefix (glass_of x m) p) (send (current (with_prefix (glass_of x m) p)).focus (c ∷ []) ∷ [])
    → Does (out (glass_of y m) (view_of y m) (says (send (current (glass_of y m)).focus (c ∷ [])))) m m₁ r ys ys₁ → Does (turned_by known x m (key c)) m m₁ r ys ys₁
unfolding said_or_going view_at
key_says known x y p m m₁ ys ys₁ c r q e h =
    subst (λ (o : Out). Does o m m₁ r ys ys₁)
    (ap (λ (g : Glass). out g (view_of y m) (says (send (current g).focus (c ∷ [])))) (q.glass m)
    ∙ ap (λ (v : View). out (with_prefix (glass_of x m) p) v (says (send (current (with_prefix (glass_of x m) p)).focus (c ∷ [])))) (q.view m)
    ∙ ap (then_goes (view_of x m)) (sym e)) h

pub prefixed : (x : Machine) (p : Bool) → Prefixed x p (record x { prefix = p })
prefixed x p = record { glass = λ m. refl; view = λ m. refl }

pub as_it_is : (x : Machine) → Prefixed x x.prefix x
as_it_is x = record { glass = λ m. refl; view = λ m. refl }
