-- Settling one place at a time: the first that is fitted leaves what settling all leaves.
use Rattle.std.proofs.Common.{◌≡◌, ℕ, zero, suc, ◌+◌, ◌<◌, ◌≤◌, Bool, true, false, ◌&&◌, eqb, ◌⊎◌, List, [], ◌∷◌, ◌++◌, length, sym, refl, ap, ◌∙◌, subst, ap₂, inl, inr, arith}
use Rattle.std.proofs.lemmas.List.{append-nil}
use Rattle.std.proofs.lemmas.Bool.{ne_eqb, eq-eqb, and_parts, eqb-true, cases_Bool, and_left}
use Rattle.meaning.specs.Words.{pick, or}
use Rattle.meaning.specs.Screen.{fitted}
use Rattle.meaning.specs.Panes.{Glass, Place, Pane, Says, turn_of, with_panes, pane_wide, pane_high, pane_fitted, size_told, fit_places, all_places, settled}
use Rattle.windows.specs.Counting.{times, place_ids, pane_ids}
use Rattle.windows.specs.Settling.{misfit, unfit, first_unfit, count_unfit, fit_one, size_of, one_step, by_steps}

-- a pane brought to the size of this place, if it is this place's
abbrev pub fit_pane : Place → Pane → Pane
fit_pane q p = pick (misfit q p) (record { id = p.id; term = fitted p.term (pane_wide q.rect) (pane_high q.rect) }) p

pub or_parts : (a b : Bool) → or a b ≡ false → (a ≡ false) × (b ≡ false)
or_parts true b e = absurd (let z : ◌≡◌ {A = ℕ} 0 1 = cc in omega arith)
or_parts false b e = (refl, e)

-- a place whose pane is as large: nothing is done and nothing told
pub fit_none : (ps : List Pane) (q : Place) → unfit ps q ≡ false → (pane_fitted ps q ≡ ps) × (size_told ps q ≡ [])
unfolding unfit
fit_none [] q e = (refl, refl)
fit_none (p ∷ ps) q e =
    let h = or_parts (misfit q p) (unfit ps q) e in
    let r = fit_none ps q h.1 in
    (rw h.0 (ap (λ (z : List Pane). p ∷ z) r.0), rw h.0 r.1)

fits_now : (q : Place) (p : Pane) → misfit q (fit_pane q p) ≡ false
fits_now q p = go (cases_Bool (misfit q p))
  where
    go : (misfit q p ≡ true) ⊎ (misfit q p ≡ false) → misfit q (fit_pane q p) ≡ false
    go (inl e) = rw (e, eq-eqb (pane_wide q.rect) (pane_wide q.rect) refl, eq-eqb (pane_high q.rect) (pane_high q.rect) refl, and_false (eqb p.id q.id))
      where
        and_false : (b : Bool) → (b && false) ≡ false
        and_false true = refl
        and_false false = refl
    go (inr e) = rw e e

-- once fitted, a place is right
pub fitted_now : (ps : List Pane) (q : Place) → unfit (pane_fitted ps q) q ≡ false
unfolding unfit
fitted_now [] q = refl
fitted_now (p ∷ ps) q = rw (fits_now q p) (fitted_now ps q)

misfit_other : (q r : Place) (p : Pane) → (r.id ≡ q.id → ⊥) → misfit r (fit_pane q p) ≡ misfit r p
misfit_other q r p n = go (cases_Bool (eqb p.id q.id))
  where
    go : (eqb p.id q.id ≡ true) ⊎ (eqb p.id q.id ≡ false) → misfit r (fit_pane q p) ≡ misfit r p
    go (inl e) = let d = eqb-true p.id q.id e in
        let f : eqb p.id r.id ≡ false = ne_eqb _ _ (λ z. n (sym z ∙ d)) in
        and_left _ _ (same_id (misfit q p) f) ∙ sym (and_left _ _ f)
      where
        same_id : (b : Bool) → eqb p.id r.id ≡ false → eqb (pick b (record { id = p.id; term = fitted p.term (pane_wide q.rect) (pane_high q.rect) }) p).id r.id ≡ false
        same_id true f = f
        same_id false f = f
    go (inr e) = rw e

-- and places of others are as they were
pub unfit_other : (ps : List Pane) (q r : Place) → (r.id ≡ q.id → ⊥) → unfit (pane_fitted ps q) r ≡ unfit ps r
unfolding unfit
unfit_other [] q r n = refl
unfit_other (p ∷ ps) q r n = rw (misfit_other q r p n, unfit_other ps q r n)

-- a place that is not in the list
count_other : (ps : List Pane) (q : Place) (qs : List Place) → times q.id (place_ids qs) ≡ 0 → count_unfit (pane_fitted ps q) qs ≡ count_unfit ps qs
unfolding count_unfit times
count_other ps q [] e = refl
count_other ps q (r ∷ qs) e =
    let n : r.id ≡ q.id → ⊥ = λ z. (let f = eq-eqb q.id r.id (sym z) in let h : 1 + times q.id (place_ids qs) ≡ 0 = (rw f at e) in omega arith) in
    rw (unfit_other ps q r n) (let h = count_other ps q qs (omega arith) in omega arith)

-- a place that is right is passed over
skip : (ps : List Pane) (r : Place) (qs : List Place) (g : Glass) (ss : List Says) → unfit ps r ≡ false → fit_places (r ∷ qs) (with_panes g ps) ss ≡ fit_places qs (with_panes g ps) ss
unfolding fit_places
skip ps r qs g ss u = let f = fit_none ps r u in rw (f.0, f.1, append-nil ss)

-- the first that is not as large
pub record First (ps : List Pane) (qs : List Place) (q : Place) : Type 0 where
  pub unfits : unfit ps q ≡ true
  pub falls : suc (count_unfit (pane_fitted ps q) qs) ≡ count_unfit ps qs
  pub present : 0 < times q.id (place_ids qs)
  pub same : (g : Glass) (ss : List Says) → fit_places qs (with_panes g ps) ss ≡ fit_places qs (with_panes g (pane_fitted ps q)) (ss ++ size_told ps q)

unfoldable pub head_of : Place → List Place → Place
head_of q [] = q
head_of q (r ∷ rs) = r

pub first_is : (ps : List Pane) (qs : List Place) → ((i : ℕ) → times i (place_ids qs) ≤ 1) → (q : Place) (os : List Place) → first_unfit ps qs ≡ q ∷ os → First ps qs q
unfolding first_unfit count_unfit times fit_places head_of
first_is ps [] d q os e = absurd (let z : ◌≡◌ {A = ℕ} 0 (suc (length os)) = ap length e in omega arith)
first_is ps (r ∷ qs) d q os e = go (cases_Bool (unfit ps r)) (λ e₁. first_is ps qs (λ i. let z = d i in omega arith) q os e₁)
  where
    go : (unfit ps r ≡ true) ⊎ (unfit ps r ≡ false) → (first_unfit ps qs ≡ q ∷ os → First ps qs q) → First ps (r ∷ qs) q
    go (inl u) later =
        let e₁ : r ∷ [] ≡ q ∷ os = (rw u at e) in
        let n : times r.id (place_ids qs) ≡ 0 = (let z = d r.id in let y : 1 + times r.id (place_ids qs) ≤ 1 = (rw (eq-eqb r.id r.id refl) at z) in omega arith) in
        subst (λ (x : Place). First ps (r ∷ qs) x) (ap (head_of r) e₁)
        (record {
          unfits = u;
          falls = rw (u, fitted_now ps r) (let z = count_other ps r qs n in omega arith);
          present = rw (eq-eqb r.id r.id refl) (omega arith);
          same = λ g ss. sym (skip (pane_fitted ps r) r qs g (ss ++ size_told ps r) (fitted_now ps r));
        })
    go (inr u) later =
        let l = later (rw u at e) in
        let b : r.id ≡ q.id → ⊥ = λ x. (let z = d q.id in let y : 1 + times q.id (place_ids qs) ≤ 1 = (rw (eq-eqb q.id r.id (sym x)) at z) in let w = l.present in omega arith) in
        let u₁ : unfit (pane_fitted ps q) r ≡ false = unfit_other ps q r b ∙ u in
        record {
          unfits = l.unfits;
          falls = rw (u, u₁) (let z = l.falls in omega arith);
          present = (let w = l.present in omega arith);
          same = λ g ss. skip ps r qs g ss u ∙ (l.same g ss ∙ sym (skip (pane_fitted ps q) r qs g (ss ++ size_told ps q) u₁));
        }

-- none: it is settled
pub none_is : (ps : List Pane) (qs : List Place) → first_unfit ps qs ≡ [] → (g : Glass) (ss : List Says) → fit_places qs (with_panes g ps) ss ≡ turn_of (with_panes g ps) ss
unfolding first_unfit fit_places
none_is ps [] e g ss = refl
none_is ps (r ∷ qs) e g ss = go (cases_Bool (unfit ps r)) (λ e₁. none_is ps qs e₁ g ss)
  where
    go : (unfit ps r ≡ true) ⊎ (unfit ps r ≡ false) → (first_unfit ps qs ≡ [] → fit_places qs (with_panes g ps) ss ≡ turn_of (with_panes g ps) ss) → fit_places (r ∷ qs) (with_panes g ps) ss ≡ turn_of (with_panes g ps) ss
    go (inl u) later = absurd (let z : r ∷ [] ≡ [] = (rw u at e) in let y : ◌≡◌ {A = ℕ} 1 0 = ap length z in omega arith)
    go (inr u) later = skip ps r qs g ss u ∙ later (rw u at e)

pub count_none : (ps : List Pane) (qs : List Place) → count_unfit ps qs ≡ 0 → first_unfit ps qs ≡ []
unfolding first_unfit count_unfit
count_none ps [] e = refl
count_none ps (r ∷ qs) e = go (cases_Bool (unfit ps r)) (count_none ps qs (omega arith))
  where
    go : (unfit ps r ≡ true) ⊎ (unfit ps r ≡ false) → first_unfit ps qs ≡ [] → first_unfit ps (r ∷ qs) ≡ []
    go (inl u) later = absurd (let z : 1 + count_unfit ps qs ≡ 0 = (rw u at e) in omega arith)
    go (inr u) later = rw u later

-- one pane, one saying
none_told : (ps : List Pane) (q : Place) → times q.id (pane_ids ps) ≡ 0 → size_told ps q ≡ []
unfolding times
none_told [] q e = refl
none_told (p ∷ ps) q e =
    let n : eqb p.id q.id ≡ false = ne_eqb _ _ (λ x. (let f = eq-eqb q.id p.id (sym x) in let h : 1 + times q.id (pane_ids ps) ≡ 0 = (rw f at e) in omega arith)) in
    rw n (none_told ps q (omega arith))

pub one_told : (ps : List Pane) (q : Place) → times q.id (pane_ids ps) ≤ 1 → unfit ps q ≡ true → size_told ps q ≡ size_of q ∷ []
unfolding times unfit
one_told [] q d u = absurd (let z : ◌≡◌ {A = ℕ} 0 1 = cc in omega arith)
one_told (p ∷ ps) q d u = go (cases_Bool (misfit q p)) (λ u₁. one_told ps q (omega arith) u₁)
  where
    go : (misfit q p ≡ true) ⊎ (misfit q p ≡ false) → (unfit ps q ≡ true → size_told ps q ≡ size_of q ∷ []) → size_told (p ∷ ps) q ≡ size_of q ∷ []
    go (inl o) later =
        let i = eqb-true p.id q.id (and_parts (eqb p.id q.id) _ o).0 in
        let z : 1 + times q.id (pane_ids ps) ≤ 1 = (rw (eq-eqb q.id p.id (sym i)) at d) in
        rw o (ap (λ (x : List Says). size_of q ∷ x) (none_told ps q (omega arith)))
    go (inr o) later = rw o (later (rw o at u))

pub same_ids : (ps : List Pane) (q : Place) → pane_ids (pane_fitted ps q) ≡ pane_ids ps
same_ids [] q = refl
same_ids (p ∷ ps) q = ap₂ (λ (x : ℕ) (y : List ℕ). x ∷ y) (go (misfit q p)) (same_ids ps q)
  where
    go : (b : Bool) → (pick b (record { id = p.id; term = fitted p.term (pane_wide q.rect) (pane_high q.rect) }) p).id ≡ p.id
    go true = refl
    go false = refl

-- THE STEPS DO WHAT SETTLING DOES
pub settles : (n : ℕ) (g : Glass) (ss : List Says) → count_unfit g.panes (all_places g) ≤ n →
    ((i : ℕ) → times i (place_ids (all_places g)) ≤ 1) → ((i : ℕ) → times i (pane_ids g.panes) ≤ 1) → by_steps n g ss ≡ settled g ss
unfolding by_steps settled
settles zero g ss c d o = sym (none_is g.panes (all_places g) (count_none g.panes (all_places g) (omega arith)) g ss)
settles (suc n) g ss c d o =
    go (first_unfit g.panes (all_places g)) refl (λ q h. settles n (fit_one g q) (ss ++ size_of q ∷ []) h d (λ i. rw (same_ids g.panes q) (o i)))
  where
    go : (f : List Place) → first_unfit g.panes (all_places g) ≡ f →
        ((q : Place) → count_unfit (pane_fitted g.panes q) (all_places g) ≤ n → by_steps n (fit_one g q) (ss ++ size_of q ∷ []) ≡ settled (fit_one g q) (ss ++ size_of q ∷ [])) →
        one_step (λ g₁ ss₁. by_steps n g₁ ss₁) g ss (first_unfit g.panes (all_places g)) ≡ settled g ss
    go [] e later = rw e (sym (none_is g.panes (all_places g) e g ss))
    go (q ∷ qs) e later =
        let f = first_is g.panes (all_places g) d q qs e in
        let t = one_told g.panes q (o q.id) f.unfits in
        rw e (later q (let z = f.falls in omega arith) ∙ (ap (λ (x : List Says). fit_places (all_places g) (fit_one g q) (ss ++ x)) (sym t) ∙ sym (f.same g ss)))
