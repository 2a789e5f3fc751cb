-- The promise of one thing that comes, where panes are settled step by step: what is said and shown is the plain glass's, which settles in one go.
use Rattle.std.proofs.Common.{◌≡◌, ℕ, zero, suc, ◌+◌, ◌*◌, ◌≤◌, Bool, true, ◌&&◌, List, [], ◌∷◌, ◌++◌, length, sym, refl, ap, ◌∙◌, subst, arith}
use Rattle.std.proofs.lemmas.Bool.{and_from, cond-true}
use Rattle.meaning.specs.Screen.{Term}
use Rattle.meaning.specs.Panes.{Glass, Event, Place, Says, Turn, turn, turn_of, fit_places, all_places, settled}
use Rattle.meaning.specs.Promise.{Engine, ToldIt, comes, next, Ran, proper_event}
use Rattle.windows.specs.Counting.{times, place_ids, pane_ids}
use Rattle.windows.specs.Settling.{first_unfit, count_unfit, AtRest, fit_one, size_of}
use Rattle.windows.specs.Parts.{part}
use Rattle.windows.proofs.Settle.{first_is, none_is, count_none, one_told}
use Rattle.windows.proofs.Rest.{first_none}
use Rattle.windows.proofs.Turns.{part_settles, part_says}
use Rattle.engine.specs.State.{View, State, state, screen_of, looks, going, view_at, proper_told, kept, machine_by}
use Rattle.engine.specs.Settling.{fit_or_go, settling, said_or_settling, stepped_on}
use Rattle.engine.proofs.Runs.{Comes, comes_says}
use Rattle.engine.proofs.Machine.{Pictured, Viewed, wrong, After, EventRuns, goes_on, step_is, screen_is}

-- from rest the machine goes on
pub settling_rests : (g : Glass) (v : View) → AtRest g → settling g v ≡ going g v
unfolding settling
settling_rests g v r = ap (fit_or_go g v) (count_none g.panes (all_places g) r)

module _ (known : ℕ → Bool) (begin : List ℕ) (fits : List ℕ → Bool) (decode : List ℕ → State) (encode : List ℕ → State → List ℕ)
    (Mid Good : ℕ → Glass → Type 0) (Room : List ℕ → Type 0)
    (pictured : (n : ℕ) (g : Glass) → Good n g → looks g ≡ true → Pictured g)
    (room : (n : ℕ) (m : List ℕ) (g : Glass) (v : View) → Room m → Mid n g → Viewed g v → Room (encode m (state g v)))
    (fit : (n : ℕ) (m : List ℕ) (g : Glass) (v : View) → Room m → Mid n g → Viewed g v → fits (encode m (state g v)) ≡ true)
    (back : (n : ℕ) (m : List ℕ) (g : Glass) (v : View) → Room m → Mid n g → Viewed g v → decode (encode m (state g v)) ≡ state g v)
    (good_mid : (n : ℕ) (g : Glass) → Good n g → Mid n g)
    (good_rest : (n : ℕ) (g : Glass) → Good n g → AtRest g)
    (mid_good : (n : ℕ) (g : Glass) → Mid n g → AtRest g → Good n g) where
  pub good_room : (n : ℕ) (m : List ℕ) (g : Glass) (v : View) → Room m → Good n g → Viewed g v → Room (encode m (state g v))
  good_room n m g v r o w = room n m g v r (good_mid n g o) w

  pub good_fit : (n : ℕ) (m : List ℕ) (g : Glass) (v : View) → Room m → Good n g → Viewed g v → fits (encode m (state g v)) ≡ true
  good_fit n m g v r o w = fit n m g v r (good_mid n g o) w

  pub good_back : (n : ℕ) (m : List ℕ) (g : Glass) (v : View) → Room m → Good n g → Viewed g v → decode (encode m (state g v)) ≡ state g v
  good_back n m g v r o w = back n m g v r (good_mid n g o) w

  pub next_is : (n : ℕ) (g : Glass) (v : View) → Good n g → stepped_on known (state g v) next ≡ going g v
  unfolding stepped_on
  next_is n g v o = settling_rests g v (good_rest n g o)

  abbrev engine : Engine
  engine = machine_by (stepped_on known) begin fits decode encode

  -- a state that has been put into memory goes on settling
  step_next : (n : ℕ) (m : List ℕ) (g : Glass) (v : View) → Room m → Mid n g → Viewed g v → engine.step (encode m (state g v)) next ≡ kept encode (encode m (state g v)) (settling g v)
  unfolding machine_by proper_told stepped_on
  step_next n m g v r o w =
      let m₁ = encode m (state g v) in
      cond-true (fits m₁ && proper_told next) _ _ (and_from _ _ (fit n m g v r o w) refl) ∙ ap (λ (s : State). kept encode m₁ (stepped_on known s next)) (back n m g v r o w)

  -- how it ends
  abbrev Ends : ℕ → View → Turn → Ran → Type 0
  Ends n v t = After (stepped_on known) begin fits decode encode Good Room pictured good_room good_fit good_back next_is n t.next t.says (64 + 32 * wrong t.next v)

  -- nothing is left to settle
  rests : (n : ℕ) (m : List ℕ) (told : ToldIt) (g : Glass) (v : View) (ss : List Says) → engine.step m told ≡ kept encode m (settling g v) → Room m → Mid n g → Viewed g v
      → first_unfit g.panes (all_places g) ≡ [] → Comes engine (settled g ss).next.attached m told (screen_of v) ss 0 (Ends n v (settled g ss))
  unfolding settling settled fit_places
  rests n m told g v ss e r o w f =
      let s : settled g ss ≡ turn_of g ss = none_is g.panes (all_places g) f g ss in
      subst (λ (t : Turn). Comes engine t.next.attached m told (screen_of v) ss 0 (Ends n v t)) (sym s)
      (goes_on (stepped_on known) begin fits decode encode Good Room pictured good_room good_fit good_back next_is n m told g v ss (e ∙ ap (λ (x : List Place). kept encode m (fit_or_go g v x)) f) r
      (mid_good n g o (first_none g.panes (all_places g) f)) w)

  module _ (mid_one : (n : ℕ) (g : Glass) (q : Place) (os : List Place) → Mid n g → first_unfit g.panes (all_places g) ≡ q ∷ os → Mid n (fit_one g q))
      (places_once : (n : ℕ) (g : Glass) → Mid n g → (i : ℕ) → times i (place_ids (all_places g)) ≤ 1)
      (panes_once : (n : ℕ) (g : Glass) → Mid n g → (i : ℕ) → times i (pane_ids g.panes) ≤ 1)
      (viewed_one : (g : Glass) (v : View) (q : Place) → Viewed g v → Viewed (fit_one g q) v) where
    settle_runs : (k n : ℕ) (m : List ℕ) (told : ToldIt) (g : Glass) (v : View) (ss : List Says) → engine.step m told ≡ kept encode m (settling g v) → Room m → Mid n g → Viewed g v
        → count_unfit g.panes (all_places g) ≤ k → Comes engine (settled g ss).next.attached m told (screen_of v) ss 0 (Ends n v (settled g ss))
    unfolding settling settled fit_places
    settle_runs zero n m told g v ss e r o w c = rests n m told g v ss e r o w (count_none g.panes (all_places g) (omega arith))
    settle_runs (suc k) n m told g v ss e r o w c = go (first_unfit g.panes (all_places g)) refl (λ m₁ q. settle_runs k n m₁ next (fit_one g q) v (ss ++ size_of q ∷ []))
      where
        Later : Type 0
        Later = (m₁ : List ℕ) (q : Place) → engine.step m₁ next ≡ kept encode m₁ (settling (fit_one g q) v) → Room m₁ → Mid n (fit_one g q) → Viewed (fit_one g q) v
            → count_unfit (fit_one g q).panes (all_places (fit_one g q)) ≤ k
            → Comes engine (settled (fit_one g q) (ss ++ size_of q ∷ [])).next.attached m₁ next (screen_of v) (ss ++ size_of q ∷ []) 0 (Ends n v (settled (fit_one g q) (ss ++ size_of q ∷ [])))

        go : (f : List Place) → first_unfit g.panes (all_places g) ≡ f → Later → Comes engine (settled g ss).next.attached m told (screen_of v) ss 0 (Ends n v (settled g ss))
        go [] f later = rests n m told g v ss e r o w f
        go (q ∷ qs) f later =
            let z = first_is g.panes (all_places g) (places_once n g o) q qs f in
            let t = one_told g.panes q (panes_once n g o q.id) z.unfits in
            let s : settled (fit_one g q) (ss ++ size_of q ∷ []) ≡ settled g ss =
            ap (λ (x : List Says). fit_places (all_places g) (fit_one g q) (ss ++ x)) (sym t) ∙ sym (z.same g ss) in
            let o₁ = mid_one n g q qs o f in
            let w₁ = viewed_one g v q w in
            let m₁ : List ℕ = encode m (state (fit_one g q) v) in
            comes_says engine (settled g ss).next.attached (Ends n v (settled g ss)) m told (screen_of v) ss 0 m₁ (size_of q) (e ∙ ap (λ (x : List Place). kept encode m (fit_or_go g v x)) f)
            (subst (λ (u : Turn). Comes engine u.next.attached m₁ next (screen_of v) (ss ++ size_of q ∷ []) 0 (Ends n v u)) s
            (later m₁ q (step_next n m (fit_one g q) v r o₁ w₁) (room n m (fit_one g q) v r o₁ w₁) o₁ w₁ (let y = z.falls in omega arith)))

    -- what is said at once, and then settling
    said_runs : (n : ℕ) (m : List ℕ) (told : ToldIt) (g : Glass) (v : View) (ss : List Says) → engine.step m told ≡ kept encode m (said_or_settling g v ss) → length ss ≤ 1 → Room m → Mid n g
        → Viewed g v → Comes engine (settled g ss).next.attached m told (screen_of v) [] 0 (Ends n v (settled g ss))
    unfolding said_or_settling
    said_runs n m told g v [] e l r o w = settle_runs (count_unfit g.panes (all_places g)) n m told g v [] e r o w (omega arith)
    said_runs n m told g v (x ∷ []) e l r o w =
        let m₁ : List ℕ = encode m (state g v) in
        comes_says engine (settled g (x ∷ [])).next.attached (Ends n v (settled g (x ∷ []))) m told (screen_of v) [] 0 m₁ x e
        (settle_runs (count_unfit g.panes (all_places g)) n m₁ next g v (x ∷ []) (step_next n m g v r o w) (room n m g v r o w) o w (omega arith))
    said_runs n m told g v (x ∷ y ∷ ss) e l r o w = absurd (omega arith)

    module _ (part_mid : (n : ℕ) (g : Glass) (ev : Event) → proper_event ev ≡ true → Good (suc n) g → Mid n (part known g ev).next)
        (part_viewed : (n : ℕ) (g : Glass) (v : View) (ev : Event) → proper_event ev ≡ true → Good n g → Viewed g v → Viewed (part known g ev).next (view_at ev v)) where
      pub settling_event_runs : EventRuns (stepped_on known) begin fits decode encode Good Room pictured good_room good_fit good_back next_is known
      unfolding proper_told stepped_on
      settling_event_runs n m g v ev p h =
          let q = part known g ev in
          let e : engine.step m (comes ev) ≡ kept encode m (said_or_settling q.next (view_at ev v) q.says) =
          step_is (stepped_on known) begin fits decode encode Good Room pictured good_room good_fit good_back next_is (suc n) m g v (comes ev) h p in
          subst (λ (t : Term). Comes engine (turn known g ev).next.attached m (comes ev) t [] 0 (Ends n (view_at ev v) (turn known g ev)))
          (sym (screen_is (stepped_on known) begin fits decode encode Good Room pictured good_room good_fit good_back next_is ev v))
          (subst (λ (t : Turn). Comes engine t.next.attached m (comes ev) (screen_of (view_at ev v)) [] 0 (Ends n (view_at ev v) t)) (sym (part_settles known g ev (good_rest (suc n) g h.good)))
          (said_runs n m (comes ev) q.next (view_at ev v) q.says e (part_says known g ev) h.has_room (part_mid n g ev p h.good) (part_viewed (suc n) g v ev p h.good h.viewed)))
