-- When nothing is left to settle: settling then does nothing, and once settled it is so.
use Rattle.std.proofs.Common.{◌≡◌, ℕ, zero, suc, ◌+◌, ◌≤◌, Bool, true, false, ◌⊎◌, List, [], ◌∷◌, ◌++◌, length, refl, ap, subst, inl, inr, arith}
use Rattle.std.proofs.lemmas.Bool.{cases_Bool}
use Rattle.meaning.specs.Words.{pick}
use Rattle.meaning.specs.Panes.{Glass, Place, Pane, Says, Turn, turn_of, all_places, settled}
use Rattle.windows.specs.Counting.{times, place_ids, pane_ids}
use Rattle.windows.specs.Settling.{unfit, first_unfit, count_unfit, AtRest, fit_one, size_of, one_step, by_steps}
use Rattle.windows.proofs.Settle.{first_is, none_is, count_none, settles}

pub rest_stays : (g : Glass) (ss : List Says) → AtRest g → settled g ss ≡ turn_of g ss
unfolding settled
rest_stays g ss f = none_is g.panes (all_places g) (count_none g.panes (all_places g) f) g ss

pub first_none : (ps : List Pane) (qs : List Place) → first_unfit ps qs ≡ [] → count_unfit ps qs ≡ 0
unfolding first_unfit count_unfit
first_none ps [] e = refl
first_none ps (q ∷ qs) e = one (cases_Bool (unfit ps q)) (λ z. first_none ps qs z)
  where
    one : (unfit ps q ≡ true) ⊎ (unfit ps q ≡ false) → (first_unfit ps qs ≡ [] → count_unfit ps qs ≡ 0) → pick (unfit ps q) 1 0 + count_unfit ps qs ≡ 0
    one (inl u) h = absurd (let z : q ∷ [] ≡ [] = (rw u at e) in let y : ◌≡◌ {A = ℕ} 1 0 = ap length z in omega arith)
    one (inr u) h = rw u (let z = h (rw u at e) in omega arith)

pub steps_rest : (n : ℕ) (g : Glass) (ss : List Says) → count_unfit g.panes (all_places g) ≤ n → ((i : ℕ) → times i (place_ids (all_places g)) ≤ 1) → AtRest (by_steps n g ss).next
unfolding by_steps
steps_rest zero g ss c d = omega arith
steps_rest (suc n) g ss c d = go (first_unfit g.panes (all_places g)) refl (λ q h. steps_rest n (fit_one g q) (ss ++ size_of q ∷ []) h d)
  where
    go : (f : List Place) → first_unfit g.panes (all_places g) ≡ f → ((q : Place) → count_unfit (fit_one g q).panes (all_places g) ≤ n → AtRest (by_steps n (fit_one g q) (ss ++ size_of q ∷ [])).next) →
        AtRest (one_step (λ g₁ ss₁. by_steps n g₁ ss₁) g ss (first_unfit g.panes (all_places g))).next
    go [] e later = rw e (first_none g.panes (all_places g) e)
    go (q ∷ qs) e later = rw e (later q (let z = (first_is g.panes (all_places g) d q qs e).falls in omega arith))

pub settled_rest : (g : Glass) (ss : List Says) → ((i : ℕ) → times i (place_ids (all_places g)) ≤ 1) → ((i : ℕ) → times i (pane_ids g.panes) ≤ 1) → AtRest (settled g ss).next
settled_rest g ss d o =
    subst (λ (u : Turn). AtRest u.next) (settles (count_unfit g.panes (all_places g)) g ss (omega arith) d o) (steps_rest (count_unfit g.panes (all_places g)) g ss (omega arith) d)

pub count_most : (ps : List Pane) (qs : List Place) → count_unfit ps qs ≤ length qs
unfolding count_unfit
count_most ps [] = omega arith
count_most ps (q ∷ qs) = go (unfit ps q) (count_most ps qs)
  where
    go : (b : Bool) → count_unfit ps qs ≤ length qs → pick b 1 0 + count_unfit ps qs ≤ suc (length qs)
    go true h = omega arith
    go false h = omega arith
