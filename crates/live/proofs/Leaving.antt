-- What d after the prefix does, and that any other key does what it does where none is known.
use Rattle.std.proofs.Common.{◌≡◌, ℕ, Bool, true, false, ◌&&◌, eqb, ◌⊎◌, List, [], ◌∷◌, sym, refl, ap, ◌∙◌, subst, inl, inr}
use Rattle.std.proofs.lemmas.Bool.{ne_eqb, eqb-true, and_parts, cases_Bool, cases_eq}
use Rattle.meaning.specs.Panes.{Glass, key, leave, Turn, turn, turn_of}
use Rattle.meaning.specs.Promise.{core, detaching}
use Rattle.meaning.specs.Entry.{ActTold, SaysTold}
use Rattle.meaning.specs.declared.answer.Told.{Told}
use Rattle.meaning.specs.declared.answer.Told.TheVariants.{Leave}
use Rattle.windows.specs.Parts.{left}
use Rattle.engine.specs.State.{View, Out, state, said_or_going, view_at}
use Rattle.engine.specs.Memory.{encode}
use Rattle.engine.proofs.Keyed.{on_unseen, on_prefix, on_plain, on_again, on_leave, on_other}
use Rattle.machine.specs.States.{glass_of, view_of}
use Rattle.machine.specs.declared.state.Machine.{Machine}
use Rattle.turns.specs.Does.{Does}
use Rattle.turns.specs.Turned.{then_goes, turned_by}
use Rattle.live.specs.Turned.{turned}

abbrev pub leaves : Glass → ℕ → Bool
leaves g c = g.attached && (g.prefix && eqb c 100)

-- the machine x at which nobody looks any more
pub record Left (x : Machine) (y : Machine) : Type 0 where
  pub glass : (m : List ℕ) → glass_of y m ≡ left (glass_of x m)
  pub view : (m : List ℕ) → view_of y m ≡ view_of x m

pub without_viewer : (x : Machine) → Left x (record x { attached = false; prefix = false })
without_viewer x = record { glass = λ m. refl; view = λ m. refl }

pub key_leaves : (g : Glass) (c : ℕ) → leaves g c ≡ true → turn detaching g (key c) ≡ turn_of (left g) (leave ∷ [])
key_leaves g c e =
    let a = and_parts g.attached _ e in
    let b = and_parts g.prefix _ a.1 in
    on_leave detaching g c a.0 b.0 (eqb-true c 100 b.1) refl

key_alike : (g : Glass) (c : ℕ) → leaves g c ≡ false → turn core g (key c) ≡ turn detaching g (key c)
key_alike g c e = go (cases_Bool g.attached) (cases_Bool g.prefix) (cases_eq c 1)
  where
    go : (g.attached ≡ true) ⊎ (g.attached ≡ false) → (g.prefix ≡ true) ⊎ (g.prefix ≡ false) → (c ≡ 1) ⊎ (c ≡ 1 → ⊥) → turn core g (key c) ≡ turn detaching g (key c)
    go (inr a) p f = on_unseen core g c a ∙ sym (on_unseen detaching g c a)
    go (inl a) (inr p) (inl f) = on_prefix core g c a p f ∙ sym (on_prefix detaching g c a p f)
    go (inl a) (inr p) (inr f) = on_plain core g c a p (ne_eqb c 1 f) ∙ sym (on_plain detaching g c a p (ne_eqb c 1 f))
    go (inl a) (inl p) (inl f) = on_again core g c a p f ∙ sym (on_again detaching g c a p f)
    go (inl a) (inl p) (inr f) =
        let d : eqb c 100 ≡ false = ap (λ (q : Bool). q && eqb c 100) (sym p) ∙ (ap (λ (q : Bool). q && (g.prefix && eqb c 100)) (sym a) ∙ e) in
        on_other core g c a p (ne_eqb c 1 f) refl ∙ sym (on_other detaching g c a p (ne_eqb c 1 f) d)

pub stays_does : (x : Machine) (m m₁ ys ys₁ : List ℕ) (c : ℕ) (r : Told) → leaves (glass_of x m) c ≡ false
    → Does (turned_by core x m (key c)) m m₁ r ys ys₁ → Does (turned x m (key c)) m m₁ r ys ys₁
stays_does x m m₁ ys ys₁ c r e d = subst (λ (t : Turn). Does (then_goes (view_at (key c) (view_of x m)) t) m m₁ r ys ys₁) (key_alike (glass_of x m) c e) d

pub leaves_does : (x y : Machine) (m m₁ ys : List ℕ) (c : ℕ) → Left x y → turn detaching (glass_of x m) (key c) ≡ turn_of (left (glass_of x m)) (leave ∷ [])
    → m₁ ≡ encode m (state (glass_of y m) (view_of y m)) → Does (turned x m (key c)) m m₁ Leave ys ys
unfolding said_or_going view_at ActTold SaysTold
leaves_does x y m m₁ ys c q e h =
    subst (λ (o : Out). Does o m m₁ Leave ys ys) (ap (then_goes (view_of x m)) (sym e))
    (record { memory = h ∙ ap (λ (g : Glass). encode m (state g (view_of y m))) (q.glass m) ∙ ap (λ (v : View). encode m (state (left (glass_of x m)) v)) (q.view m); act = (refl, refl) })
