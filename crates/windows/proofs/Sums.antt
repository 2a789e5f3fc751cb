-- The cells of panes and of places, added up: at rest they are as many, and no more than eight windows and 32 panes allow.
use Rattle.std.proofs.Common.{◌≡◌, ℕ, ◌+◌, ◌-◌, ◌*◌, ◌<◌, ◌≤◌, Bool, true, false, not, eqb, ◌⊎◌, List, [], ◌∷◌, ◌++◌, length, sym, refl, ap, ◌∙◌, inl, inr, mul-le-mul_right, suc-mul, mul_comm, add-mul, arith, length-append}
use Rattle.std.proofs.lemmas.Bool.Decides.{nat_tests}
use Rattle.std.proofs.lemmas.Bool.{ne_eqb, eq-eqb, and_parts, eqb-true, cases_Bool}
use Rattle.meaning.specs.Words.{pick, flat, larger}
use Rattle.meaning.specs.Panes.{Glass, Window, Layout, pane, beside, above, Rect, Place, places, left_of, right_of, upper_of, lower_of, half, ids, Pane, as_large, pane_wide, pane_high, room, all_places}
use Rattle.windows.specs.Counting.{times, place_ids, pane_ids, glass_ids}
use Rattle.windows.specs.Invariants.{Sane}
use Rattle.windows.specs.Settling.{misfit, unfit, count_unfit, AtRest}
use Rattle.windows.specs.Cells.{added_up, pane_cells, cells_in, place_cells, SmallScreen}
use Rattle.windows.proofs.Settle.{or_parts}
use Rattle.windows.proofs.Ids.{ids_all}
use Rattle.windows.proofs.Turns.{none_unfit, places_once}

pub added_append : {A : Type 0} (f : A → ℕ) (xs ys : List A) → added_up f (xs ++ ys) ≡ added_up f xs + added_up f ys
added_append f [] ys = omega arith
added_append f (x ∷ xs) ys = let e = added_append f xs ys in omega arith

-- THE SAME NUMBERS, AS OFTEN, HAVE THE SAME SUM of whatever is added for each; first x is taken out once
unfoldable less_one : ℕ → List ℕ → List ℕ
less_one x [] = []
less_one x (y ∷ ys) = pick (eqb x y) ys (y ∷ less_one x ys)

less_times : (x : ℕ) (ys : List ℕ) → 0 < times x ys → (f : ℕ → ℕ) (i : ℕ) → (times i (less_one x ys) + pick (eqb i x) 1 0 ≡ times i ys) × (added_up f (less_one x ys) + f x ≡ added_up f ys)
unfolding times less_one
less_times x [] h f i = absurd (omega arith)
less_times x (y ∷ ys) h f i = go (cases_Bool (eqb x y)) (λ k. less_times x ys k f i)
  where
    go : (eqb x y ≡ true) ⊎ (eqb x y ≡ false) → (0 < times x ys → (times i (less_one x ys) + pick (eqb i x) 1 0 ≡ times i ys) × (added_up f (less_one x ys) + f x ≡ added_up f ys)) →
        (times i (pick (eqb x y) ys (y ∷ less_one x ys)) + pick (eqb i x) 1 0 ≡ pick (eqb i y) 1 0 + times i ys) × (added_up f (pick (eqb x y) ys (y ∷ less_one x ys)) + f x ≡ f y + added_up f ys)
    go (inl e) later = let d = eqb-true x y e in (rw (e, d) (omega arith), rw (e, d) (omega arith))
    go (inr e) later = let z = later (let w : 0 < 0 + times x ys = (rw e at h) in omega arith) in (rw e (omega arith), rw e (omega arith))

pub same_sum : (f : ℕ → ℕ) (xs ys : List ℕ) → ((i : ℕ) → times i xs ≡ times i ys) → added_up f xs ≡ added_up f ys
unfolding times
same_sum f [] [] h = refl
same_sum f [] (y ∷ ys) h = absurd (let z = h y in let w : ◌≡◌ {A = ℕ} 0 (1 + times y ys) = (rw (eq-eqb y y refl) at z) in omega arith)
same_sum f (x ∷ xs) ys h =
    let z = h x in
    let w : 1 + times x xs ≡ times x ys = (rw (eq-eqb x x refl) at z) in
    let p : 0 < times x ys = omega arith in
    let r = same_sum f xs (less_one x ys) (λ i. let a = less_times x ys p f i in let b = h i in omega arith) in
    let a = less_times x ys p f x in omega arith

-- the cells of the place that a pane has by its number
unfoldable pub cells_for : List Place → ℕ → ℕ
cells_for [] i = 0
cells_for (q ∷ qs) i = pick (eqb i q.id) (cells_in q) (cells_for qs i)

other_sum : (q : Place) (qs : List Place) (is : List ℕ) → times q.id is ≡ 0 → added_up (cells_for (q ∷ qs)) is ≡ added_up (cells_for qs) is
unfolding times cells_for
other_sum q qs [] e = refl
other_sum q qs (i ∷ is) e =
    let n : eqb i q.id ≡ false = ne_eqb _ _ (λ x. (let f = eq-eqb q.id i (sym x) in let h : 1 + times q.id is ≡ 0 = (rw f at e) in omega arith)) in
    rw n (let z = other_sum q qs is (omega arith) in omega arith)

own_cells : (q : Place) (qs : List Place) → cells_for (q ∷ qs) q.id ≡ cells_in q
unfolding cells_for
own_cells q qs = rw (eq-eqb q.id q.id refl)

pub places_sum : (qs : List Place) → ((i : ℕ) → times i (place_ids qs) ≤ 1) → added_up (cells_for qs) (place_ids qs) ≡ place_cells qs
unfolding times
places_sum [] d = refl
places_sum (q ∷ qs) d =
    let o = eq-eqb q.id q.id refl in
    let n : times q.id (place_ids qs) ≡ 0 = (let z = d q.id in let y : 1 + times q.id (place_ids qs) ≤ 1 = (rw o at z) in omega arith) in
    let s = other_sum q qs (place_ids qs) n in
    let r = places_sum qs (λ i. let z = d i in omega arith) in
    let h = own_cells q qs in
    omega arith

-- a pane that fits has the cells of its place
fits_cells : (p : Pane) (q : Place) → p.id ≡ q.id → misfit q p ≡ false → p.term.high * p.term.wide ≡ cells_in q
fits_cells p q e m =
    let a : not (as_large q.rect p.term) ≡ false = (rw (eq-eqb p.id q.id e) at m) in
    let b : as_large q.rect p.term ≡ true = positive (as_large q.rect p.term) a in
    let c = and_parts (eqb p.term.wide (pane_wide q.rect)) _ b in
    rw (eqb-true _ _ c.0, eqb-true _ _ c.1)
  where
    positive : (x : Bool) → not x ≡ false → x ≡ true
    positive true z = refl
    positive false z = cc

one_sum : (p : Pane) (qs : List Place) → count_unfit (p ∷ []) qs ≡ 0 → 0 < times p.id (place_ids qs) → p.term.high * p.term.wide ≡ cells_for qs p.id
unfolding times cells_for count_unfit unfit
one_sum p [] c h = absurd (omega arith)
one_sum p (q ∷ qs) c h = go (cases_Bool (eqb p.id q.id)) (cases_Bool (misfit q p)) (λ a b. one_sum p qs a b)
  where
    go : (eqb p.id q.id ≡ true) ⊎ (eqb p.id q.id ≡ false) → (misfit q p ≡ true) ⊎ (misfit q p ≡ false) → (count_unfit (p ∷ []) qs ≡ 0 → 0 < times p.id (place_ids qs) → p.term.high * p.term.wide ≡ cells_for qs p.id) →
        p.term.high * p.term.wide ≡ pick (eqb p.id q.id) (cells_in q) (cells_for qs p.id)
    go e (inl m) later = absurd (let z : 1 + count_unfit (p ∷ []) qs ≡ 0 = (rw m at c) in omega arith)
    go (inl e) (inr m) later = rw e (fits_cells p q (eqb-true p.id q.id e) m)
    go (inr e) (inr m) later = rw e (later (omega arith) (let z : 0 < 0 + times p.id (place_ids qs) = (rw e at h) in omega arith))

unfit_head : (p : Pane) (ps : List Pane) (q : Place) → unfit (p ∷ ps) q ≡ false → (unfit (p ∷ []) q ≡ false) × (unfit ps q ≡ false)
unfolding unfit
unfit_head p ps q u = let h = or_parts (misfit q p) (unfit ps q) u in (rw h.0, h.1)

pub panes_sum : (ps : List Pane) (qs : List Place) → count_unfit ps qs ≡ 0 → ((i : ℕ) → 0 < times i (pane_ids ps) → 0 < times i (place_ids qs)) → pane_cells ps ≡ added_up (cells_for qs) (pane_ids ps)
unfolding times
panes_sum [] qs c h = refl
panes_sum (p ∷ ps) qs c h =
    let a = one_sum p qs (none_unfit (p ∷ ps) (p ∷ []) qs (λ q u. (unfit_head p ps q u).0) c) (h p.id (rw (eq-eqb p.id p.id refl) (omega arith))) in
    let b = panes_sum ps qs (none_unfit (p ∷ ps) ps qs (λ q u. (unfit_head p ps q u).1) c) (λ i k. h i (omega arith)) in
    omega arith

pub cells_rest : (g : Glass) → Sane g → AtRest g → pane_cells g.panes ≡ place_cells (all_places g)
cells_rest g s a =
    let same : (i : ℕ) → times i (pane_ids g.panes) ≡ times i (place_ids (all_places g)) = λ i. s.housed i ∙ sym (ap (times i) (ids_all g.windows (room g))) in
    panes_sum g.panes (all_places g) a (λ i h. let z = same i in omega arith)
    ∙ (same_sum (cells_for (all_places g)) (pane_ids g.panes) (place_ids (all_places g)) same ∙ places_sum (all_places g) (places_once g s))

-- HOW MANY AT MOST: a split takes a line away, but a part without room has a row or column all the same
halves : (w : ℕ) → larger 1 (half w) + larger 1 (w - 1 - half w) ≤ larger 1 w + 1
halves w = grind (arith, nat_tests)

large : (w n : ℕ) → w ≤ n → 1 ≤ n → larger 1 w ≤ n
large w n h k = grind (arith, nat_tests)

-- (a + b) h where a + b ≤ w + 1
spread : (a b w h : ℕ) → a + b ≤ w + 1 → h ≤ 200 → a * h + b * h ≤ w * h + 200
spread a b w h e k = let p : (a + b) * h ≤ (w + 1) * h = mul-le-mul_right h e in omega (arith, add-mul a b h, add-mul w 1 h, suc-mul 0 h)

pub layout_cells : (l : Layout) (r : Rect) → r.wide ≤ 200 → r.high ≤ 200 → place_cells (places l r) + 200 ≤ pane_high r * pane_wide r + 200 * length (ids l)
unfolding places ids
layout_cells (pane i) r w h = omega arith
layout_cells (above a b) r w h =
    let p = layout_cells a (upper_of r) w (omega arith) in
    let q = layout_cells b (lower_of r) w (omega arith) in
    let s = spread (pane_high (upper_of r)) (pane_high (lower_of r)) (pane_high r) (pane_wide r) (halves r.high) (large r.wide 200 w (omega arith)) in
    rw (added_append cells_in (places a (upper_of r)) (places b (lower_of r)), length-append (ids a) (ids b)) (omega arith)
layout_cells (beside a b) r w h =
    let p = layout_cells a (left_of r) (omega arith) h in
    let q = layout_cells b (right_of r) (omega arith) h in
    let s = spread (pane_wide (left_of r)) (pane_wide (right_of r)) (pane_wide r) (pane_high r) (halves r.wide) (large r.high 200 h (omega arith)) in
    rw (added_append cells_in (places a (left_of r)) (places b (right_of r)), length-append (ids a) (ids b))
    (omega (arith, mul_comm (pane_high r) (pane_wide (left_of r)), mul_comm (pane_high r) (pane_wide (right_of r)), mul_comm (pane_high r) (pane_wide r)))

full : (r : Rect) → r.wide ≤ 200 → r.high ≤ 59 → pane_high r * pane_wide r ≤ 11800
full r w h =
    let a = large r.high 59 h (omega arith) in
    let b = large r.wide 200 w (omega arith) in
    let c : pane_high r * pane_wide r ≤ 59 * pane_wide r = mul-le-mul_right (pane_wide r) a in
    omega arith

windows_cells : (vs : List Window) (r : Rect) → r.wide ≤ 200 → r.high ≤ 59 →
    place_cells (flat (λ v. places v.layout r) vs) ≤ 11600 * length vs + 200 * length (glass_ids vs)
windows_cells [] r w h = omega arith
windows_cells (v ∷ vs) r w h =
    let a = layout_cells v.layout r w (omega arith) in
    let b = full r w h in
    let c = windows_cells vs r w h in
    rw (added_append cells_in (places v.layout r) (flat (λ v. places v.layout r) vs), length-append (ids v.layout) (glass_ids vs)) (omega arith)

pub cells_most : (g : Glass) → Sane g → SmallScreen g → place_cells (all_places g) ≤ 99200
cells_most g s m =
    let a = windows_cells g.windows (room g) m.columns (let z = m.lines in omega arith) in
    let b = s.within.windows in
    let c = s.within.panes in
    let d = s.within.places in
    omega arith
