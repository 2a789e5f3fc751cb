-- A turn is its part, settled where need be: so turns keep what always holds of windows and panes, and from rest each is its part and then settling.
use Rattle.std.proofs.Common.{◌≡◌, ℕ, zero, suc, ◌+◌, ◌≤◌, Bool, true, false, not, ◌&&◌, eqb, ltb, leb, ◌⊎◌, List, [], ◌∷◌, ◌++◌, length, sym, refl, ap, ◌∙◌, subst, inl, inr, arith}
use Rattle.std.proofs.lemmas.Bool.{eqb-true, cases_Bool}
use Rattle.meaning.specs.Words.{pick, or, each, those, flat, none_of, put_at}
use Rattle.meaning.specs.Screen.{Term, with_answer}
use Rattle.meaning.specs.Bytes.{written}
use Rattle.meaning.specs.Panes.{Glass, Window, Rect, Place, places, ids, current, window_at, Pane, set_term, Says, leave, over, Turn, turn_of, Event, key, from, gone, attach, with_panes, with_windows, with_prefix, room, fit_places, all_places, settled, then_settled, begin_pane, new_window, split, place_of_focus, large_enough, after, other_pane, windows_without, new_at, pane_of, on_bytes, on_key, on_gone, on_attach, command, turn}
use Rattle.meaning.proofs.Controls.{pick_both}
use Rattle.windows.specs.Counting.{times, place_ids, pane_ids, glass_ids}
use Rattle.windows.specs.Invariants.{Sane, KeepsSane}
use Rattle.windows.specs.Settling.{misfit, unfit, count_unfit, AtRest, SettlesBySteps}
use Rattle.windows.specs.Parts.{new_window_part, split_part, next_window, previous_window, left, looked, command_part, key_part, gone_part, attach_part, part, PartSettles, StaysAtRest}
use Rattle.windows.proofs.Settle.{or_parts, settles}
use Rattle.windows.proofs.Rest.{rest_stays, settled_rest, count_most}
use Rattle.windows.proofs.Ids.{ids_all, length_each}
use Rattle.windows.proofs.Sane.{sane_settled, sane_part, sane_first}
use Rattle.windows.proofs.Sized.{sized_written}

-- OTHER PLACES AND PANES THAT FIT AS BEFORE
same_places : (r : Rect) (vs : List Window) (k : ℕ) (f : ℕ) →
    flat (λ v. places v.layout r) (put_at vs k (record { layout = (window_at vs k).layout; focus = f })) ≡ flat (λ v. places v.layout r) vs
unfolding window_at
same_places r [] k f = refl
same_places r (v ∷ vs) zero f = refl
same_places r (v ∷ vs) (suc k) f = ap (λ (z : List Place). places v.layout r ++ z) (same_places r vs k f)

pub rest_other : (g : Glass) → AtRest g → AtRest (other_pane g)
rest_other g a = ap (count_unfit g.panes) (same_places (room g) g.windows g.at (after (current g).focus (ids (current g).layout) (ids (current g).layout))) ∙ a

-- the pane with a number is one of all, and fits if all do
found_fits : (ps : List Pane) (q : Place) (i : ℕ) (p : Pane) (os : List Pane) → those (λ x. eqb x.id i) ps ≡ p ∷ os → unfit ps q ≡ false → (p.id ≡ i) × (misfit q p ≡ false)
unfolding unfit
found_fits [] q i p os e u = absurd (let z : ◌≡◌ {A = ℕ} 0 (suc (length os)) = ap length e in omega arith)
found_fits (r ∷ ps) q i p os e u = go (cases_Bool (eqb r.id i)) (λ z. found_fits ps q i p os z (or_parts (misfit q r) (unfit ps q) u).1)
  where
    head_of : List Pane → Pane
    head_of [] = r
    head_of (x ∷ xs) = x

    go : (eqb r.id i ≡ true) ⊎ (eqb r.id i ≡ false) → (those (λ x. eqb x.id i) ps ≡ p ∷ os → (p.id ≡ i) × (misfit q p ≡ false)) → (p.id ≡ i) × (misfit q p ≡ false)
    go (inl b) later =
        let z : r ∷ those (λ x. eqb x.id i) ps ≡ p ∷ os = (rw b at e) in
        let y : r ≡ p = ap head_of z in
        subst (λ (x : Pane). (x.id ≡ i) × (misfit q x ≡ false)) y (eqb-true r.id i b, (or_parts (misfit q r) (unfit ps q) u).0)
    go (inr b) later = later (rw b at e)

-- a terminal of the same size in its place
set_fits : (ps : List Pane) (q : Place) (i : ℕ) (t : Term) → misfit q (record { id = i; term = t }) ≡ false → unfit ps q ≡ false → unfit (each (set_term i t) ps) q ≡ false
unfolding unfit
set_fits [] q i t m u = refl
set_fits (p ∷ ps) q i t m u =
    let h = or_parts (misfit q p) (unfit ps q) u in
    let z : misfit q (set_term i t p) ≡ false = pick_both (λ (x : Pane). misfit q x ≡ false) (eqb p.id i) _ _ m h.0 in
    rw z (set_fits ps q i t m h.1)

pub none_unfit : (ps ps₁ : List Pane) (qs : List Place) → ((q : Place) → unfit ps q ≡ false → unfit ps₁ q ≡ false) → count_unfit ps qs ≡ 0 → count_unfit ps₁ qs ≡ 0
unfolding count_unfit
none_unfit ps ps₁ [] h e = refl
none_unfit ps ps₁ (q ∷ qs) h e = go (cases_Bool (unfit ps q)) (λ z. none_unfit ps ps₁ qs h z)
  where
    go : (unfit ps q ≡ true) ⊎ (unfit ps q ≡ false) → (count_unfit ps qs ≡ 0 → count_unfit ps₁ qs ≡ 0) → pick (unfit ps₁ q) 1 0 + count_unfit ps₁ qs ≡ 0
    go (inl u) later = absurd (let z : 1 + count_unfit ps qs ≡ 0 = (rw u at e) in omega arith)
    go (inr u) later = rw (h q u) (let z = later (omega arith) in omega arith)

pub rest_bytes : (g : Glass) (i : ℕ) (p : Pane) (ps : List Pane) (t : Term) → pane_of g i ≡ p ∷ ps → t.wide ≡ p.term.wide → t.high ≡ p.term.high → AtRest g → AtRest (with_panes g (each (set_term i t) g.panes))
rest_bytes g i p ps t e w h =
    none_unfit g.panes (each (set_term i t) g.panes) (all_places g)
    (λ q u. let f = found_fits g.panes q i p ps e u in set_fits g.panes q i t (rw (w, h, sym f.0) f.1) u)

-- WHAT HOLDS OF EACH LEAF HOLDS OF A TURN AND ITS PART: where the plain glass settles, and where it does not, because all fits as before
module _ (R : Turn → Turn → Type 0) (more : (x : Glass) (ss : List Says) → R (settled x ss) (turn_of x ss)) where
  both : (b : Bool) (t u t₁ u₁ : Turn) → R t t₁ → R u u₁ → R (pick b t u) (pick b t₁ u₁)
  both true t u t₁ u₁ p q = p
  both false t u t₁ u₁ p q = q

  begun_leaf : (x : Turn) → R (then_settled x) x
  begun_leaf x = more x.next x.says

  module _ (g : Glass) (rest : (x : Glass) (ss : List Says) → (AtRest g → AtRest x) → R (turn_of x ss) (turn_of x ss)) where
    same : (ss : List Says) → R (turn_of g ss) (turn_of g ss)
    same ss = rest g ss (λ a. a)

    window_leaf : R (new_window g) (new_window_part g)
    window_leaf = both (or (leb 8 (length g.windows)) (leb 32 (length g.panes))) _ _ _ _ (same []) (begun_leaf _)

    split_leaf : (side : Bool) → R (split g side) (split_part g side)
    split_leaf side = both (large_enough side (place_of_focus g) && ltb (length g.panes) 32) _ _ _ _ (begun_leaf _) (same [])

    command_leaf : (known : ℕ → Bool) (c : ℕ) → R (command known g c) (command_part known g c)
    unfolding command command_part
    command_leaf known c =
        both (eqb c 1) _ _ _ _ (same _)
        (both (known c) _ _ _ _
        (both (eqb c 99) _ _ _ _ window_leaf
        (both (eqb c 110) _ _ _ _ (rest (next_window g) [] (λ a. a))
        (both (eqb c 112) _ _ _ _ (rest (previous_window g) [] (λ a. a))
        (both (eqb c 124) _ _ _ _ (split_leaf true)
        (both (eqb c 45) _ _ _ _ (split_leaf false)
        (both (eqb c 111) _ _ _ _ (rest (other_pane g) [] (rest_other g))
        (both (eqb c 120) _ _ _ _ (same _)
        (both (eqb c 100) _ _ _ _ (rest (left g) (leave ∷ []) (λ a. a)) (same []))))))))
        ) (same []))

    bytes_leaf : (i : ℕ) (bs : List ℕ) (ps : List Pane) → pane_of g i ≡ ps → R (on_bytes g i bs ps) (on_bytes g i bs ps)
    unfolding on_bytes
    bytes_leaf i bs [] e = same []
    bytes_leaf i bs (p ∷ ps) e =
        let z = sized_written p.term bs in
        rest (with_panes g (each (set_term i (with_answer (written p.term bs) [])) g.panes)) _ (rest_bytes g i p ps (with_answer (written p.term bs) []) e z.0 z.1)

    gone_leaf : (i : ℕ) → R (on_gone g i) (gone_part g i)
    unfolding settled fit_places
    gone_leaf i = both (none_of (pane_of g i)) _ _ _ _ (same []) (go (windows_without i g.windows))
      where
        glass : List Window → Glass
        glass vs = with_panes (with_windows g vs (new_at g i vs)) (those (λ p. not (eqb p.id i)) g.panes)

        go : (vs : List Window) → R (pick (none_of vs) (turn_of (settled (glass vs) []).next ((settled (glass vs) []).says ++ over ∷ [])) (settled (glass vs) [])) (turn_of (glass vs) (pick (none_of vs) (over ∷ []) []))
        go [] = more (glass []) (over ∷ [])
        go (v ∷ vs) = more (glass (v ∷ vs)) []

    key_leaf : (known : ℕ → Bool) (c : ℕ) → R (command known (with_prefix g false) c) (command_part known (with_prefix g false) c) → R (on_key known g c) (key_part known g c)
    key_leaf known c k =
        both g.attached _ _ _ _ (both g.prefix _ _ _ _ k (both (eqb c 1) _ _ _ _ (rest (with_prefix g true) [] (λ a. a)) (same _))) (same [])

  attach_leaf : (g : Glass) (w h : ℕ) → ((x : Glass) (ss : List Says) → (AtRest g → AtRest x) → R (turn_of x ss) (turn_of x ss)) → R (on_attach g w h) (attach_part g w h)
  unfolding count_unfit
  attach_leaf g w h rest = go g.windows refl
    where
      u : Glass
      u = looked g w h

      go : (vs : List Window) → g.windows ≡ vs → R (on_attach g w h) (attach_part g w h)
      go [] e =
          let a : AtRest u = ap (λ (vs : List Window). count_unfit g.panes (flat (λ v. places v.layout (room u)) vs)) e in
          both (none_of g.windows) _ _ _ _ (window_leaf u (λ x ss k. rest x ss (λ _. k a))) (more u [])
      go (v ∷ vs) e =
          subst (λ (b : Bool). R (pick b (new_window u) (settled u [])) (pick b (new_window_part u) (turn_of u []))) (sym (ap none_of e)) (more u [])

  pub turn_part : (known : ℕ → Bool) (g : Glass) (ev : Event) → ((x : Glass) (ss : List Says) → (AtRest g → AtRest x) → R (turn_of x ss) (turn_of x ss)) → R (turn known g ev) (part known g ev)
  unfolding turn part
  turn_part known g (key c) rest = key_leaf g rest known c (command_leaf (with_prefix g false) rest known c)
  turn_part known g (from i bs) rest = bytes_leaf g rest i bs (pane_of g i) refl
  turn_part known g (gone i) rest = gone_leaf g rest i
  turn_part known g (attach w h) rest = attach_leaf g w h rest

-- EVERY TURN KEEPS WHAT ALWAYS HOLDS
pub sane_turn : (known : ℕ → Bool) (g : Glass) (ev : Event) → Sane g → Sane (turn known g ev).next
sane_turn known g ev s = turn_part (λ t p. Sane p.next → Sane t.next) (λ x ss a. sane_settled x ss a) known g ev (λ x ss _ a. a) (sane_part known g ev s)

pub keeps_sane : KeepsSane
unfolding KeepsSane
keeps_sane = (sane_first, sane_turn)

-- FROM REST, A TURN IS ITS PART, SETTLED
pub part_settles : (known : ℕ → Bool) (g : Glass) (ev : Event) → AtRest g → turn known g ev ≡ settled (part known g ev).next (part known g ev).says
part_settles known g ev a = turn_part (λ t p. t ≡ settled p.next p.says) (λ x ss. refl) known g ev (λ x ss k. sym (rest_stays x ss (k a)))

-- SETTLING COMES TO REST
pub places_once : (g : Glass) → Sane g → (i : ℕ) → times i (place_ids (all_places g)) ≤ 1
places_once g s i = rw (ids_all g.windows (room g)) (s.distinct i)

pub panes_once : (g : Glass) → Sane g → (i : ℕ) → times i (pane_ids g.panes) ≤ 1
panes_once g s i = rw (s.housed i) (s.distinct i)

pub rests_settled : (g : Glass) (ss : List Says) → Sane g → AtRest (settled g ss).next
rests_settled g ss s = settled_rest g ss (places_once g s) (panes_once g s)

pub few_unfit : (g : Glass) → Sane g → count_unfit g.panes (all_places g) ≤ 32
few_unfit g s =
    let a = count_most g.panes (all_places g) in
    let b : length (all_places g) ≡ length (glass_ids g.windows) = sym (length_each _ (all_places g)) ∙ ap length (ids_all g.windows (room g)) in
    let c = s.within.places in
    let d = s.within.panes in
    omega arith

pub settles_by_steps : SettlesBySteps
unfolding SettlesBySteps
settles_by_steps g ss s = (few_unfit g s, λ n h. settles n g ss h (places_once g s) (panes_once g s), rests_settled g ss s)

-- a turn from rest comes to rest again
pub rests_turn : (known : ℕ → Bool) (g : Glass) (ev : Event) → Sane g → AtRest g → AtRest (turn known g ev).next
rests_turn known g ev s a =
    subst (λ (t : Turn). AtRest t.next) (sym (part_settles known g ev a)) (rests_settled (part known g ev).next (part known g ev).says (sane_part known g ev s))

pub stays_at_rest : StaysAtRest
unfolding StaysAtRest count_unfit
stays_at_rest = (refl, rests_turn)

-- ONE THING AT MOST IS SAID BEFORE SETTLING
abbrev SaysOne : Turn → Type 0
SaysOne t = length t.says ≤ 1

begun_says : (g : Glass) (i : ℕ) (qs : List Place) → SaysOne (begin_pane g i qs)
begun_says g i [] = omega arith
begun_says g i (q ∷ qs) = omega arith

window_says : (g : Glass) → SaysOne (new_window_part g)
window_says g = pick_both SaysOne (or (leb 8 (length g.windows)) (leb 32 (length g.panes))) _ _ (omega arith) (begun_says _ _ _)

split_says : (g : Glass) (side : Bool) → SaysOne (split_part g side)
split_says g side = pick_both SaysOne (large_enough side (place_of_focus g) && ltb (length g.panes) 32) _ _ (begun_says _ _ _) (omega arith)

command_says : (known : ℕ → Bool) (g : Glass) (c : ℕ) → SaysOne (command_part known g c)
unfolding command_part
command_says known g c =
    pick_both SaysOne (eqb c 1) _ _ (omega arith)
    (pick_both SaysOne (known c) _ _
    (pick_both SaysOne (eqb c 99) _ _ (window_says g)
    (pick_both SaysOne (eqb c 110) _ _ (omega arith)
    (pick_both SaysOne (eqb c 112) _ _ (omega arith)
    (pick_both SaysOne (eqb c 124) _ _ (split_says g true)
    (pick_both SaysOne (eqb c 45) _ _ (split_says g false)
    (pick_both SaysOne (eqb c 111) _ _ (omega arith)
    (pick_both SaysOne (eqb c 120) _ _ (omega arith)
    (pick_both SaysOne (eqb c 100) _ _ (omega arith) (omega arith))))))))) (omega arith))

bytes_says : (g : Glass) (i : ℕ) (bs : List ℕ) (ps : List Pane) → SaysOne (on_bytes g i bs ps)
unfolding on_bytes
bytes_says g i bs [] = omega arith
bytes_says g i bs (p ∷ ps) = pick_both (λ (ss : List Says). length ss ≤ 1) (none_of (written p.term bs).answer) _ _ (omega arith) (omega arith)

pub part_says : (known : ℕ → Bool) (g : Glass) (ev : Event) → length (part known g ev).says ≤ 1
unfolding part
part_says known g (key c) =
    pick_both SaysOne g.attached _ _ (pick_both SaysOne g.prefix _ _ (command_says known (with_prefix g false) c) (pick_both SaysOne (eqb c 1) _ _ (omega arith) (omega arith))) (omega arith)
part_says known g (from i bs) = bytes_says g i bs (pane_of g i)
part_says known g (gone i) =
    pick_both SaysOne (none_of (pane_of g i)) _ _ (omega arith)
    (pick_both (λ (ss : List Says). length ss ≤ 1) (none_of (windows_without i g.windows)) _ _ (omega arith) (omega arith))
part_says known g (attach w h) = pick_both SaysOne (none_of g.windows) _ _ (window_says (looked g w h)) (omega arith)

pub parts_settle : PartSettles
unfolding PartSettles
parts_settle known g ev = (part_says known g ev, part_settles known g ev)
