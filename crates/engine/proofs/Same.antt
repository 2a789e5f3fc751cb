-- Two machines whose steps are the same for all that is proper keep the promise alike.
use Rattle.std.proofs.Common.{◌≡◌, ℕ, zero, suc, ◌+◌, ◌*◌, ◌≤◌, Bool, true, false, ◌&&◌, List, [], ◌∷◌, ◌++◌, length, refl, ap, ◌∙◌, subst}
use Rattle.std.proofs.lemmas.Bool.{and_parts}
use Rattle.meaning.specs.Words.{pick, every}
use Rattle.meaning.specs.Screen.{Term}
use Rattle.meaning.specs.Bytes.{written}
use Rattle.meaning.specs.Panes.{Glass, Event, Says, turn}
use Rattle.meaning.specs.Picture.{picture, differs}
use Rattle.meaning.specs.Promise.{Engine, ToldIt, comes, next, Act, write, says, wait, Ran, ran, runs, one_act, a_row, run_of, screen_at, Shows, is_over, Right, proper_event}
use Rattle.engine.specs.State.{proper_told}

abbrev Go : Type 0
Go = List ℕ → ToldIt → Term → List Says → ℕ → Ran

same_act : (looked : Bool) (f g : Go) → ((m : List ℕ) (t : Term) (ss : List Says) (b : ℕ) → f m next t ss b ≡ g m next t ss b) → (m : List ℕ) (t : Term) (ss : List Says) (b : ℕ) (a : Act)
    → one_act looked f t ss b m a ≡ one_act looked g t ss b m a
unfolding one_act
same_act looked f g h m t ss b (write bs) = ap (λ (r : Ran). pick (looked && a_row bs) r (ran m t ss b 1001)) (h m (written t bs) ss (b + length bs))
same_act looked f g h m t ss b (says s) = h m t (ss ++ s ∷ []) b
same_act looked f g h m t ss b wait = refl

module _ (e d : Engine) (same : (m : List ℕ) (told : ToldIt) → proper_told told ≡ true → e.step m told ≡ d.step m told) where
  same_runs : (looked : Bool) (n : ℕ) (m : List ℕ) (told : ToldIt) (t : Term) (ss : List Says) (b : ℕ) → proper_told told ≡ true → runs looked n e m told t ss b ≡ runs looked n d m told t ss b
  unfolding runs proper_told
  same_runs looked zero m told t ss b p = refl
  same_runs looked (suc n) m told t ss b p =
      same_act looked (λ m₁ ev₁ t₁ ss₁ b₁. runs looked n e m₁ ev₁ t₁ ss₁ b₁) (λ m₁ ev₁ t₁ ss₁ b₁. runs looked n d m₁ ev₁ t₁ ss₁ b₁)
      (λ m₁ t₁ ss₁ b₁. same_runs looked n m₁ next t₁ ss₁ b₁ refl) (e.step m told).memory t ss b (e.step m told).act
      ∙ ap (λ s. one_act looked (λ m₁ ev₁ t₁ ss₁ b₁. runs looked n d m₁ ev₁ t₁ ss₁ b₁) t ss b s.memory s.act) (same m told p)

  pub same_right : (known : ℕ → Bool) (evs : List Event) (m : List ℕ) (g : Glass) (t : Term) → every proper_event evs ≡ true → Right known e m g t evs → Right known d m g t evs
  unfolding Right proper_told
  same_right known [] m g t p x = x
  same_right known (ev ∷ evs) m g t p x =
      let o = and_parts (proper_event ev) _ p in
      let g₁ = (turn known g ev).next in
      let q : run_of known e x.0 m g t ev ≡ run_of known d x.0 m g t ev = same_runs g₁.attached x.0 m (comes ev) (screen_at ev t) [] 0 o.0 in (
        x.0,
        subst (λ (r : Ran). r.end ≡ 0) q x.1,
        subst (λ (r : Ran). r.said ≡ (turn known g ev).says) q x.2,
        subst (λ (r : Ran). (g₁.attached ≡ true) × (is_over g₁ ≡ false) → Shows g₁ r.screen × (r.bytes ≤ 64 + 32 * differs (screen_at ev t).rows (picture g₁))) q x.3,
        subst (λ (r : Ran). is_over g₁ ≡ true → r.bytes ≤ 64) q x.4,
        λ k. subst (λ (r : Ran). Right known d r.memory g₁ r.screen evs) q (same_right known evs (run_of known e x.0 m g t ev).memory g₁ (run_of known e x.0 m g t ev).screen o.1 (x.5 k)),
      )
