-- The states that can come about: while sizes change, and at rest. Memory has room for them.
use Rattle.std.proofs.Common.{◌≡◌, ℕ, suc, ◌+◌, ◌^◌, ◌<◌, ◌≤◌, Bool, true, false, ◌⊎◌, List, [], ◌∷◌, ◌++◌, length, sym, refl, ap, ◌∙◌, subst, inl, inr, arith, length-append}
use Rattle.std.specs.List.{AllByRecursion}
use Rattle.std.proofs.ByRecursion.{All-weaker}
use Rattle.std.proofs.lemmas.Bool.{cases_Bool, cases_lt, eq-eqb}
use Rattle.meaning.specs.Panes.{Glass, Window, Place, Pane, Event, key, from, gone, attach, Says, ids, with_panes, pane_fitted, size_told, fit_places, all_places, settled, turn}
use Rattle.meaning.specs.Promise.{proper_event}
use Rattle.grid.specs.Cells.{cells_of}
use Rattle.windows.specs.Counting.{times, pane_ids, glass_ids}
use Rattle.windows.specs.Invariants.{Sane, Focused}
use Rattle.windows.specs.Settling.{unfit, first_unfit, AtRest, fit_one}
use Rattle.windows.specs.Cells.{pane_cells, SmallScreen}
use Rattle.windows.specs.Parts.{part}
use Rattle.windows.proofs.Ids.{times_append}
use Rattle.windows.proofs.Settle.{same_ids}
use Rattle.windows.proofs.Sane.{sane_panes, sane_part, fit_keeps}
use Rattle.windows.proofs.Turns.{places_once, panes_once, sane_turn, rests_turn, part_settles}
use Rattle.windows.proofs.Sums.{cells_rest, cells_most}
use Rattle.windows.proofs.Growth.{weight, cells_fitted, to_come_falls, to_come_none}
use Rattle.windows.proofs.PartCells.{part_grows}
use Rattle.engine.specs.State.{View, state, view_at}
use Rattle.engine.proofs.Machine.{Viewed}
use Rattle.engine.proofs.Good.{fresh_viewed, proper_size}
use Rattle.stored.specs.Many.{all_cells}
use Rattle.stored.specs.Laws.{WindowKept, PaneKept, Storable}
use Rattle.stored.proofs.Areas.{cells_room_is}
use Rattle.stored.proofs.Kept.{pane_kept, view_kept}
use Rattle.stored.proofs.Terminals.{PaneGood, SmallPlace, places_small, fit_good}
use Rattle.stored.proofs.Going.{Held, held_part, sized_key, sized_from, sized_gone, sized_attach}

-- while sizes change
pub record Mid (n : ℕ) (g : Glass) : Type 0 where
  pub sane : Sane g
  pub held : Held n g
  pub cells : weight g ≤ 198400

-- and at rest
pub record Good (n : ℕ) (g : Glass) : Type 0 where
  pub mid : Mid n g
  pub rest : AtRest g

-- NUMBERS BELOW THE NEXT ONE
below : (k : ℕ) (xs : List ℕ) → ((i : ℕ) → k ≤ i → times i xs ≡ 0) → AllByRecursion (λ i. i < k) xs
unfolding times
below k [] f = tt
below k (x ∷ xs) f = (go (cases_lt x k), below k xs (λ i h. let z = f i h in omega arith))
  where
    go : (x < k) ⊎ (k ≤ x) → x < k
    go (inl h) = h
    go (inr h) = absurd (let z = f x h in let y : 1 + times x xs ≡ 0 = (rw (eq-eqb x x refl) at z) in omega arith)

one_below : (k i : ℕ) (xs : List ℕ) → ((j : ℕ) → k ≤ j → times j xs ≡ 0) → 0 < times i xs → i < k
one_below k i xs f h = go (cases_lt i k)
  where
    go : (i < k) ⊎ (k ≤ i) → i < k
    go (inl l) = l
    go (inr l) = absurd (let z = f i l in omega arith)

windows_kept : (k : ℕ) (vs : List Window) → k < 2 ^ 47 → ((i : ℕ) → k ≤ i → times i (glass_ids vs) ≡ 0) → Focused vs → AllByRecursion WindowKept vs
windows_kept k [] h f o = tt
windows_kept k (v ∷ vs) h f o =
    let here : (i : ℕ) → k ≤ i → times i (ids v.layout) ≡ 0 = (λ i l. let z = f i l in let y = times_append i (ids v.layout) (glass_ids vs) in omega arith) in
    let there : (i : ℕ) → k ≤ i → times i (glass_ids vs) ≡ 0 = (λ i l. let z = f i l in let y = times_append i (ids v.layout) (glass_ids vs) in omega arith) in (
      record {
        focus = (let z = one_below k v.focus (ids v.layout) here o.0 in omega arith);
        panes = All-weaker (λ i. i < k) (λ i. i < 2 ^ 47) (λ i l. omega arith) (ids v.layout) (below k (ids v.layout) here);
      },
      windows_kept k vs h there o.1,
    )

panes_kept : (k : ℕ) (ps : List Pane) → k < 2 ^ 47 → AllByRecursion (λ i. i < k) (pane_ids ps) → AllByRecursion PaneGood ps → AllByRecursion PaneKept ps
panes_kept k [] h f o = tt
panes_kept k (p ∷ ps) h f o =
    let q = o.0 in
    let s = q.some_wide in let t = q.some_high in let l = f.0 in
    (pane_kept q.wide_of q.high_of p (omega arith) q.wide (omega arith) q.high q.sound q.fine q.reads q.silent (omega arith), panes_kept k ps h f.1 o.1)

length_all_cells : (ps : List Pane) → AllByRecursion PaneKept ps → length (all_cells ps) ≡ pane_cells ps
length_all_cells [] f = refl
length_all_cells (p ∷ ps) f =
    let a = length-append (cells_of p.term.rows) (all_cells ps) in
    let b = f.0.long in
    let c = length_all_cells ps f.1 in
    omega arith

pub storable : (n : ℕ) (g : Glass) (v : View) → Mid n g → Viewed g v → Storable (state g v)
storable n g v o w =
    let s = o.sane in
    let h = o.held in
    let k : g.next < 2 ^ 47 = (let l = h.left in omega arith) in
    let i = below g.next (pane_ids g.panes) (λ j l. s.housed j ∙ s.fresh_next j l) in
    let ps = panes_kept g.next g.panes k i h.panes in
    let l = s.within in
    let a = l.places in
    let b = l.panes in
    record {
      glass = record {
        some_wide = h.some_wide;
        wide = h.wide;
        some_high = h.some_high;
        high = h.high;
        at = h.at;
        next = k;
        few_windows = l.windows;
        few_places = omega arith;
        few_panes = b;
        windows = windows_kept g.next g.windows k s.fresh_next s.focused;
        panes = ps;
        few_cells = (let r = cells_room_is in let c = length_all_cells g.panes ps in let d = o.cells in omega arith);
      };
      view = view_kept g v w;
    }

-- ONE PANE FITTED
first_in : (P : Place → Type 0) (ps : List Pane) (qs : List Place) (q : Place) (os : List Place) → AllByRecursion P qs → first_unfit ps qs ≡ q ∷ os → P q
unfolding first_unfit
first_in P ps [] q os f e = absurd (let z : ◌≡◌ {A = ℕ} 0 (suc (length os)) = ap length e in omega arith)
first_in P ps (r ∷ qs) q os f e = go (cases_Bool (unfit ps r)) (first_in P ps qs q os f.1)
  where
    head_of : Place → List Place → Place
    head_of d [] = d
    head_of d (x ∷ xs) = x

    go : (unfit ps r ≡ true) ⊎ (unfit ps r ≡ false) → (first_unfit ps qs ≡ q ∷ os → P q) → P q
    go (inl u) later = let z : r ∷ [] ≡ q ∷ os = (rw u at e) in subst P (ap (head_of r) z) f.0
    go (inr u) later = later (rw u at e)

held_panes : (n : ℕ) (g : Glass) (ps : List Pane) → Held n g → AllByRecursion PaneGood ps → Held n (with_panes g ps)
held_panes n g ps o f = record { some_wide = o.some_wide; wide = o.wide; some_high = o.some_high; high = o.high; at = o.at; left = o.left; panes = f }

pub mid_one : (n : ℕ) (g : Glass) (q : Place) (os : List Place) → Mid n g → first_unfit g.panes (all_places g) ≡ q ∷ os → Mid n (fit_one g q)
mid_one n g q os o e =
    let h = o.held in
    let s = o.sane in
    let small = first_in (λ r. SmallPlace r.rect) g.panes (all_places g) q os (places_small g h.wide h.high) e in
    record {
      sane = sane_panes g (pane_fitted g.panes q) (same_ids g.panes q) s;
      held = held_panes n g (pane_fitted g.panes q) h (fit_good g.panes q small h.panes);
      cells = (let a = cells_fitted g.panes q (panes_once g s q.id) in let b = to_come_falls g.panes (all_places g) (places_once g s) q os e in let c = o.cells in omega arith);
    }

-- WHAT COMES
small_screen : (n : ℕ) (g : Glass) → Held n g → SmallScreen g
small_screen n g h = record { columns = h.wide; lines = h.high }

pub part_mid : (known : ℕ → Bool) (n : ℕ) (g : Glass) (ev : Event) → proper_event ev ≡ true → Good (suc n) g → Mid n (part known g ev).next
part_mid known n g ev p o =
    let s = o.mid.sane in
    let h = o.mid.held in
    let x = (part known g ev).next in
    let sx = sane_part known g ev s in
    let hx = held_part known n g ev p s h in
    record {
      sane = sx;
      held = hx;
      cells = (let a = part_grows known g ev s o.rest in let b = cells_most x sx (small_screen n x hx) in let c = cells_rest g s o.rest in let d = cells_most g s (small_screen (suc n) g h) in omega arith);
    }

same_view : (g u : Glass) (v : View) → u.wide ≡ g.wide → u.high ≡ g.high → Viewed g v → Viewed u v
same_view g u v e f o = record { is_wide = o.is_wide ∙ sym e; is_high = o.is_high ∙ sym f; long = rw (e, f) o.long; small = o.small; pen = rw (e, f) o.pen }

pub viewed_one : (g : Glass) (v : View) (q : Place) → Viewed g v → Viewed (fit_one g q) v
viewed_one g v q o = same_view g (fit_one g q) v refl refl o

pub part_viewed : (known : ℕ → Bool) (g : Glass) (v : View) (ev : Event) → proper_event ev ≡ true → Viewed g v → Viewed (part known g ev).next (view_at ev v)
unfolding view_at
part_viewed known g v (key c) p w = let e = sized_key known g c in same_view g _ v e.0 e.1 w
part_viewed known g v (from i bs) p w = let e = sized_from known g i bs in same_view g _ v e.0 e.1 w
part_viewed known g v (gone i) p w = let e = sized_gone known g i in same_view g _ v e.0 e.1 w
part_viewed known g v (attach a b) p w =
    let e = sized_attach known g a b in
    let q = proper_size a b p in
    fresh_viewed _ a b e.0 e.1 (let z = q.some_wide in omega arith) (let z = q.some_high in omega arith)

-- AND WHOLE TURNS
held_fit : (n : ℕ) (qs : List Place) (g : Glass) (ss : List Says) → AllByRecursion (λ q. SmallPlace q.rect) qs → Held n g → Held n (fit_places qs g ss).next
unfolding fit_places
held_fit n [] g ss f o = o
held_fit n (q ∷ qs) g ss f o =
    held_fit n qs (with_panes g (pane_fitted g.panes q)) (ss ++ size_told g.panes q) f.1 (held_panes n g (pane_fitted g.panes q) o (fit_good g.panes q f.0 o.panes))

held_settled : (n : ℕ) (g : Glass) (ss : List Says) → Held n g → Held n (settled g ss).next
unfolding settled
held_settled n g ss o = held_fit n (all_places g) g ss (places_small g o.wide o.high) o

pub turn_good : (known : ℕ → Bool) (n : ℕ) (g : Glass) (ev : Event) → proper_event ev ≡ true → Good (suc n) g → Good n (turn known g ev).next
turn_good known n g ev p o =
    let s = o.mid.sane in
    let x = part known g ev in
    let u = (turn known g ev).next in
    let e = part_settles known g ev o.rest in
    let hu : Held n u = subst (λ (t : _). Held n t.next) (sym e) (held_settled n x.next x.says (held_part known n g ev p s o.mid.held)) in
    let su = sane_turn known g ev s in
    let ru = rests_turn known g ev s o.rest in
    record {
      mid = record {
        sane = su;
        held = hu;
        cells = (let a = to_come_none u.panes (all_places u) ru in let b = cells_rest u su ru in let c = cells_most u su (small_screen n u hu) in omega arith);
      };
      rest = ru;
    }

settled_size : (g : Glass) (ss : List Says) → ((settled g ss).next.wide ≡ g.wide) × ((settled g ss).next.high ≡ g.high)
unfolding settled
settled_size g ss = let h = fit_keeps (all_places g) g ss in (ap (λ (u : Glass). u.wide) h.1, ap (λ (u : Glass). u.high) h.1)

pub turn_viewed : (known : ℕ → Bool) (n : ℕ) (g : Glass) (v : View) (ev : Event) → proper_event ev ≡ true → Good n g → Viewed g v → Viewed (turn known g ev).next (view_at ev v)
turn_viewed known n g v ev p o w =
    let x = part known g ev in
    let e = part_settles known g ev o.rest in
    let z = settled_size x.next x.says in
    subst (λ (t : _). Viewed t.next (view_at ev v)) (sym e) (same_view x.next _ (view_at ev v) z.0 z.1 (part_viewed known g v ev p w))
