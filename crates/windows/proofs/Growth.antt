-- Cells while sizes change: those there are and those to come never grow from one pane to the next, so no turn has more than twice what rest has.
use Rattle.std.proofs.Common.{◌≡◌, ℕ, zero, suc, ◌+◌, ◌*◌, ◌≤◌, Bool, true, false, ◌&&◌, eqb, ◌⊎◌, List, [], ◌∷◌, ◌++◌, length, sym, refl, ap, subst, inl, inr, arith}
use Rattle.std.proofs.lemmas.Bool.{ne_eqb, eq-eqb, eqb-true, eqb-false, cases_Bool}
use Rattle.meaning.specs.Words.{pick}
use Rattle.meaning.specs.Screen.{fresh}
use Rattle.meaning.specs.Panes.{Glass, Place, Pane, Says, all_places, pane_wide, pane_high, pane_fitted, place_in}
use Rattle.meaning.proofs.Controls.{pick_both}
use Rattle.windows.specs.Counting.{times, place_ids, pane_ids}
use Rattle.windows.specs.Settling.{misfit, unfit, first_unfit, count_unfit, fit_one, size_of, one_step, by_steps}
use Rattle.windows.specs.Cells.{pane_cells, cells_in, place_cells, cells_to_come}
use Rattle.windows.proofs.Settle.{head_of, fit_pane, fitted_now, unfit_other, first_is, same_ids}

-- ONE PANE FITTED: no more than the cells of its place are added
none_fitted : (q : Place) (ps : List Pane) → times q.id (pane_ids ps) ≡ 0 → pane_cells (pane_fitted ps q) ≡ pane_cells ps
unfolding times
none_fitted q [] e = refl
none_fitted q (p ∷ ps) e =
    let n : eqb p.id q.id ≡ false = ne_eqb _ _ (λ x. (let f = eq-eqb q.id p.id (sym x) in let k : 1 + times q.id (pane_ids ps) ≡ 0 = (rw f at e) in omega arith)) in
    rw n (let z = none_fitted q ps (omega arith) in omega arith)

one_fitted : (q : Place) (p : Pane) → (fit_pane q p).term.high * (fit_pane q p).term.wide ≤ p.term.high * p.term.wide + cells_in q
one_fitted q p = go (cases_Bool (misfit q p))
  where
    go : (misfit q p ≡ true) ⊎ (misfit q p ≡ false) → (fit_pane q p).term.high * (fit_pane q p).term.wide ≤ p.term.high * p.term.wide + cells_in q
    go (inl e) = rw e (omega arith)
    go (inr e) = rw e (omega arith)

pub cells_fitted : (ps : List Pane) (q : Place) → times q.id (pane_ids ps) ≤ 1 → pane_cells (pane_fitted ps q) ≤ pane_cells ps + cells_in q
unfolding times
cells_fitted [] q h = omega arith
cells_fitted (p ∷ ps) q h = go (cases_Bool (eqb q.id p.id)) (cells_fitted ps q (omega arith))
  where
    go : (eqb q.id p.id ≡ true) ⊎ (eqb q.id p.id ≡ false) → pane_cells (pane_fitted ps q) ≤ pane_cells ps + cells_in q → pane_cells (pane_fitted (p ∷ ps) q) ≤ pane_cells (p ∷ ps) + cells_in q
    go (inl e) later =
        let z : 1 + times q.id (pane_ids ps) ≤ 1 = (rw e at h) in
        let y = none_fitted q ps (omega arith) in
        let x = one_fitted q p in omega arith
    go (inr e) later =
        let n : eqb p.id q.id ≡ false = ne_eqb _ _ (λ x. eqb-false q.id p.id e (sym x)) in
        rw n (omega arith)

-- and just as many are no more to come
to_come_other : (ps : List Pane) (q : Place) (qs : List Place) → times q.id (place_ids qs) ≡ 0 → cells_to_come (pane_fitted ps q) qs ≡ cells_to_come ps qs
unfolding times
to_come_other ps q [] e = refl
to_come_other ps q (r ∷ qs) e =
    let n : r.id ≡ q.id → ⊥ = λ z. (let f = eq-eqb q.id r.id (sym z) in let h : 1 + times q.id (place_ids qs) ≡ 0 = (rw f at e) in omega arith) in
    rw (unfit_other ps q r n) (let h = to_come_other ps q qs (omega arith) in omega arith)

pub to_come_falls : (ps : List Pane) (qs : List Place) → ((i : ℕ) → times i (place_ids qs) ≤ 1) → (q : Place) (os : List Place) → first_unfit ps qs ≡ q ∷ os →
    cells_to_come (pane_fitted ps q) qs + cells_in q ≡ cells_to_come ps qs
unfolding first_unfit times head_of
to_come_falls ps [] d q os e = absurd (let z : ◌≡◌ {A = ℕ} 0 (suc (length os)) = ap length e in omega arith)
to_come_falls ps (r ∷ qs) d q os e = go (cases_Bool (unfit ps r)) (λ e₁. to_come_falls ps qs (λ i. let z = d i in omega arith) q os e₁)
  where
    go : (unfit ps r ≡ true) ⊎ (unfit ps r ≡ false) → (first_unfit ps qs ≡ q ∷ os → cells_to_come (pane_fitted ps q) qs + cells_in q ≡ cells_to_come ps qs) →
        cells_to_come (pane_fitted ps q) (r ∷ qs) + cells_in q ≡ cells_to_come ps (r ∷ qs)
    go (inl u) later =
        let e₁ : r ∷ [] ≡ q ∷ os = (rw u at e) in
        let n : times r.id (place_ids qs) ≡ 0 = (let z = d r.id in let y : 1 + times r.id (place_ids qs) ≤ 1 = (rw (eq-eqb r.id r.id refl) at z) in omega arith) in
        subst (λ (x : Place). cells_to_come (pane_fitted ps x) (r ∷ qs) + cells_in x ≡ cells_to_come ps (r ∷ qs)) (ap (head_of r) e₁)
        (rw (u, fitted_now ps r) (let z = to_come_other ps r qs n in omega arith))
    go (inr u) later =
        let e₁ : first_unfit ps qs ≡ q ∷ os = (rw u at e) in
        let l = first_is ps qs (λ i. let z = d i in omega arith) q os e₁ in
        let b : r.id ≡ q.id → ⊥ = λ x. (let z = d q.id in let y : 1 + times q.id (place_ids qs) ≤ 1 = (rw (eq-eqb q.id r.id (sym x)) at z) in let w = l.present in omega arith) in
        rw (u, unfit_other ps q r b) (let z = later e₁ in rw u (omega arith))

-- the cells there are and those to come
abbrev pub weight : Glass → ℕ
weight g = pane_cells g.panes + cells_to_come g.panes (all_places g)

pub steps_cells : (n : ℕ) (g : Glass) (ss : List Says) → ((i : ℕ) → times i (place_ids (all_places g)) ≤ 1) → ((i : ℕ) → times i (pane_ids g.panes) ≤ 1) →
    pane_cells (by_steps n g ss).next.panes ≤ weight g
unfolding by_steps
steps_cells zero g ss d o = omega arith
steps_cells (suc n) g ss d o =
    go (first_unfit g.panes (all_places g)) refl (λ q. steps_cells n (fit_one g q) (ss ++ size_of q ∷ []) d (λ i. rw (same_ids g.panes q) (o i)))
  where
    go : (f : List Place) → first_unfit g.panes (all_places g) ≡ f → ((q : Place) → pane_cells (by_steps n (fit_one g q) (ss ++ size_of q ∷ [])).next.panes ≤ weight (fit_one g q)) →
        pane_cells (one_step (λ g₁ ss₁. by_steps n g₁ ss₁) g ss (first_unfit g.panes (all_places g))).next.panes ≤ weight g
    go [] e later = rw e (omega arith)
    go (q ∷ qs) e later =
        let a = later q in
        let b = cells_fitted g.panes q (o q.id) in
        let c = to_come_falls g.panes (all_places g) d q qs e in
        rw e (omega arith)

-- WHAT IS TO COME
pub to_come_most : (ps : List Pane) (qs : List Place) → cells_to_come ps qs ≤ place_cells qs
to_come_most ps [] = omega arith
to_come_most ps (q ∷ qs) = let z = to_come_most ps qs in let y = pick_both (λ (k : ℕ). k ≤ cells_in q) (unfit ps q) (cells_in q) 0 (omega arith) (omega arith) in omega arith

pub to_come_none : (ps : List Pane) (qs : List Place) → count_unfit ps qs ≡ 0 → cells_to_come ps qs ≡ 0
unfolding count_unfit
to_come_none ps [] e = refl
to_come_none ps (q ∷ qs) e = go (cases_Bool (unfit ps q)) (λ z. to_come_none ps qs z)
  where
    go : (unfit ps q ≡ true) ⊎ (unfit ps q ≡ false) → (count_unfit ps qs ≡ 0 → cells_to_come ps qs ≡ 0) → pick (unfit ps q) (cells_in q) 0 + cells_to_come ps qs ≡ 0
    go (inl u) later = absurd (let z : 1 + count_unfit ps qs ≡ 0 = (rw u at e) in omega arith)
    go (inr u) later = rw u (let z = later (omega arith) in omega arith)

-- a place that has its pane's size already adds nothing
pub to_come_less : (ps : List Pane) (qs : List Place) (i : ℕ) (q : Place) (os : List Place) → place_in qs i ≡ q ∷ os → unfit ps q ≡ false → cells_to_come ps qs + cells_in q ≤ place_cells qs
unfolding head_of
to_come_less ps [] i q os e u = absurd (let z : ◌≡◌ {A = ℕ} 0 (suc (length os)) = ap length e in omega arith)
to_come_less ps (r ∷ qs) i q os e u = go (cases_Bool (eqb r.id i)) (λ z. to_come_less ps qs i q os z u)
  where
    go : (eqb r.id i ≡ true) ⊎ (eqb r.id i ≡ false) → (place_in qs i ≡ q ∷ os → cells_to_come ps qs + cells_in q ≤ place_cells qs) → cells_to_come ps (r ∷ qs) + cells_in q ≤ place_cells (r ∷ qs)
    go (inl b) later =
        let z : r ∷ place_in qs i ≡ q ∷ os = (rw b at e) in
        let y : q ≡ r = sym (ap (head_of r) z) in
        subst (λ (x : Place). cells_to_come ps (r ∷ qs) + cells_in x ≤ cells_in r + place_cells qs) (sym y)
        (let v : unfit ps r ≡ false = subst (λ (x : Place). unfit ps x ≡ false) y u in rw v (let m = to_come_most ps qs in omega arith))
    go (inr b) later =
        let z = later (rw b at e) in
        let y = pick_both (λ (k : ℕ). k ≤ cells_in r) (unfit ps r) (cells_in r) 0 (omega arith) (omega arith) in
        omega arith

pub place_in_id : (qs : List Place) (i : ℕ) (q : Place) (os : List Place) → place_in qs i ≡ q ∷ os → q.id ≡ i
unfolding head_of
place_in_id [] i q os e = absurd (let z : ◌≡◌ {A = ℕ} 0 (suc (length os)) = ap length e in omega arith)
place_in_id (r ∷ qs) i q os e = go (cases_Bool (eqb r.id i)) (λ z. place_in_id qs i q os z)
  where
    go : (eqb r.id i ≡ true) ⊎ (eqb r.id i ≡ false) → (place_in qs i ≡ q ∷ os → q.id ≡ i) → q.id ≡ i
    go (inl b) later =
        let z : r ∷ place_in qs i ≡ q ∷ os = (rw b at e) in
        subst (λ (x : Place). x.id ≡ i) (ap (head_of r) z) (eqb-true r.id i b)
    go (inr b) later = later (rw b at e)

-- a new pane has the size of its place
abbrev pub new_pane : ℕ → Place → Pane
new_pane i q = record { id = i; term = fresh (pane_wide q.rect) (pane_high q.rect) }

new_fits : (q : Place) (i : ℕ) → misfit q (new_pane i q) ≡ false
new_fits q i = rw (eq-eqb (pane_wide q.rect) (pane_wide q.rect) refl, eq-eqb (pane_high q.rect) (pane_high q.rect) refl) (and_false (eqb i q.id))
  where
    and_false : (b : Bool) → (b && false) ≡ false
    and_false true = refl
    and_false false = refl

pub unfit_new : (ps : List Pane) (q : Place) (i : ℕ) → times q.id (pane_ids ps) ≡ 0 → unfit (ps ++ new_pane i q ∷ []) q ≡ false
unfolding unfit times
unfit_new [] q i e = rw (new_fits q i)
unfit_new (p ∷ ps) q i e =
    let n : eqb p.id q.id ≡ false = ne_eqb _ _ (λ x. (let f = eq-eqb q.id p.id (sym x) in let h : 1 + times q.id (pane_ids ps) ≡ 0 = (rw f at e) in omega arith)) in
    rw n (unfit_new ps q i (omega arith))
