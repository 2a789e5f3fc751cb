-- What a turn does before it settles: the cells there are and those to come are at most those there were and those of the new places.
use Rattle.std.proofs.Common.{◌≡◌, ℕ, ◌+◌, ◌*◌, ◌≤◌, Bool, true, false, not, ◌&&◌, eqb, ltb, leb, List, [], ◌∷◌, ◌++◌, length, sym, refl, ◌∙◌, subst, arith}
use Rattle.std.proofs.lemmas.Bool.{and_parts, leb-true}
use Rattle.meaning.specs.Words.{pick, or, each, those, none_of}
use Rattle.meaning.specs.Screen.{with_answer}
use Rattle.meaning.specs.Bytes.{written}
use Rattle.meaning.specs.Panes.{Glass, Place, Pane, set_term, Says, Turn, turn_of, Event, key, from, gone, attach, with_panes, with_windows, with_prefix, numbered, all_places, place_in, begin_pane, place_of_focus, large_enough, other_pane, pane_of, on_bytes}
use Rattle.meaning.specs.Promise.{proper_event}
use Rattle.meaning.proofs.Controls.{pick_both}
use Rattle.windows.specs.Counting.{times, pane_ids}
use Rattle.windows.specs.Invariants.{Sane}
use Rattle.windows.specs.Settling.{AtRest}
use Rattle.windows.specs.Parts.{without_pane, begun_part, new_window_part, split_part, next_window, previous_window, left, looked, command_part, part}
use Rattle.windows.specs.Cells.{pane_cells, place_cells, cells_to_come, SmallScreen, CellsAtRest, CellsWhileSettling}
use Rattle.windows.proofs.Sane.{sane_same, sane_part, sane_bytes}
use Rattle.windows.proofs.Sized.{sized_written}
use Rattle.windows.proofs.Turns.{places_once, panes_once, rest_bytes}
use Rattle.windows.proofs.Sums.{added_append, cells_rest, cells_most}
use Rattle.windows.proofs.Growth.{weight, steps_cells, to_come_most, to_come_none, to_come_less, place_in_id, new_pane, unfit_new}

-- k cells there were
abbrev pub Grows : ℕ → Turn → Type 0
Grows k t = weight t.next ≤ k + place_cells (all_places t.next)

-- the same panes, whatever their places
same_grows : (g : Glass) (ss : List Says) → Grows (pane_cells g.panes) (turn_of g ss)
same_grows g ss = let z = to_come_most g.panes (all_places g) in omega arith

new_grows : (ps : List Pane) (qs : List Place) (i : ℕ) (q : Place) (os : List Place) → times i (pane_ids ps) ≡ 0 → place_in qs i ≡ q ∷ os →
    pane_cells (ps ++ new_pane i q ∷ []) + cells_to_come (ps ++ new_pane i q ∷ []) qs ≤ pane_cells ps + place_cells qs
new_grows ps qs i q os n e =
    let d = place_in_id qs i q os e in
    let a = to_come_less (ps ++ new_pane i q ∷ []) qs i q os e (unfit_new ps q i (subst (λ (j : ℕ). times j (pane_ids ps) ≡ 0) (sym d) n)) in
    let b = added_append (λ (p : Pane). p.term.high * p.term.wide) ps (new_pane i q ∷ []) in
    omega arith

begun_grows : (u : Glass) (i : ℕ) → times i (pane_ids u.panes) ≡ 0 → Grows (pane_cells u.panes) (begun_part u i)
begun_grows u i n = go (place_in (all_places u) i) refl
  where
    go : (qs : List Place) → place_in (all_places u) i ≡ qs → Grows (pane_cells u.panes) (begin_pane (numbered u) i qs)
    go [] e = same_grows (numbered u) []
    go (q ∷ os) e = new_grows u.panes (all_places u) i q os n e

module _ (g : Glass) (s : Sane g) where
  next_free : times g.next (pane_ids g.panes) ≡ 0
  next_free = s.housed g.next ∙ s.fresh_next g.next (omega arith)

  abbrev Ours : Turn → Type 0
  Ours t = Grows (pane_cells g.panes) t

  window_grows : Ours (new_window_part g)
  window_grows = pick_both Ours (or (leb 8 (length g.windows)) (leb 32 (length g.panes))) _ _ (same_grows g []) (begun_grows (with_windows g _ _) g.next next_free)

  split_grows : (side : Bool) → Ours (split_part g side)
  split_grows side = pick_both Ours (large_enough side (place_of_focus g) && ltb (length g.panes) 32) _ _ (begun_grows (with_windows g _ _) g.next next_free) (same_grows g [])

  command_grows : (known : ℕ → Bool) (c : ℕ) → Ours (command_part known g c)
  unfolding command_part
  command_grows known c =
      pick_both Ours (eqb c 1) _ _ (same_grows g [])
      (pick_both Ours (known c) _ _
      (pick_both Ours (eqb c 99) _ _ window_grows
      (pick_both Ours (eqb c 110) _ _ (same_grows (next_window g) [])
      (pick_both Ours (eqb c 112) _ _ (same_grows (previous_window g) [])
      (pick_both Ours (eqb c 124) _ _ (split_grows true)
      (pick_both Ours (eqb c 45) _ _ (split_grows false)
      (pick_both Ours (eqb c 111) _ _ (same_grows (other_pane g) [])
      (pick_both Ours (eqb c 120) _ _ (same_grows g [])
      (pick_both Ours (eqb c 100) _ _ (same_grows (left g) []) (same_grows g [])))))))))
      (same_grows g []))

fewer_cells : (i : ℕ) (ps : List Pane) → pane_cells (those (λ p. not (eqb p.id i)) ps) ≤ pane_cells ps
fewer_cells i [] = omega arith
fewer_cells i (p ∷ ps) = go (eqb p.id i) (fewer_cells i ps)
  where
    go : (b : Bool) → pane_cells (those (λ p. not (eqb p.id i)) ps) ≤ pane_cells ps →
        pane_cells (pick (not b) (p ∷ those (λ p. not (eqb p.id i)) ps) (those (λ p. not (eqb p.id i)) ps)) ≤ pane_cells (p ∷ ps)
    go true h = omega arith
    go false h = omega arith

-- bytes change no size: it is at rest as before
bytes_grows : (g : Glass) (i : ℕ) (bs : List ℕ) (ps : List Pane) → pane_of g i ≡ ps → Sane g → AtRest g → Grows (pane_cells g.panes) (on_bytes g i bs ps)
unfolding on_bytes
bytes_grows g i bs [] e s a = same_grows g []
bytes_grows g i bs (p ∷ ps) e s a =
    let z = sized_written p.term bs in
    let x : Glass = with_panes g (each (set_term i (with_answer (written p.term bs) [])) g.panes) in
    let r = rest_bytes g i p ps (with_answer (written p.term bs) []) e z.0 z.1 a in
    let c = cells_rest x (sane_bytes g i bs (p ∷ ps) s) r in
    let d = to_come_none x.panes (all_places x) r in
    omega arith

pub part_grows : (known : ℕ → Bool) (g : Glass) (ev : Event) → Sane g → AtRest g → Grows (pane_cells g.panes) (part known g ev)
unfolding part
part_grows known g (key c) s a =
    let k : ℕ = pane_cells g.panes in
    let u : Sane (with_prefix g false) = sane_same g (with_prefix g false) refl refl refl s.current s in
    pick_both (Grows k) g.attached _ _
    (pick_both (Grows k) g.prefix _ _ (command_grows (with_prefix g false) u known c) (pick_both (Grows k) (eqb c 1) _ _ (same_grows (with_prefix g true) []) (same_grows g []))) (same_grows g [])
part_grows known g (from i bs) s a = bytes_grows g i bs (pane_of g i) refl s a
part_grows known g (gone i) s a =
    pick_both (Grows (pane_cells g.panes)) (none_of (pane_of g i)) _ _ (same_grows g [])
    (let z = same_grows (without_pane g i) [] in let y = fewer_cells i g.panes in omega arith)
part_grows known g (attach w h) s a =
    let u : Sane (looked g w h) = sane_same g (looked g w h) refl refl refl s.current s in
    pick_both (Grows (pane_cells g.panes)) (none_of g.windows) _ _ (window_grows (looked g w h) u) (same_grows (looked g w h) [])

-- THE SCREEN'S SIZE
abbrev Small : Turn → Type 0
Small t = SmallScreen t.next

small_same : (g u : Glass) → u.wide ≡ g.wide → u.high ≡ g.high → SmallScreen g → SmallScreen u
small_same g u w h m = record { columns = rw w m.columns; lines = rw h m.lines }

small_begun : (g : Glass) (i : ℕ) (qs : List Place) → SmallScreen g → Small (begin_pane g i qs)
small_begun g i [] m = m
small_begun g i (q ∷ qs) m = small_same g _ refl refl m

small_window : (g : Glass) → SmallScreen g → Small (new_window_part g)
small_window g m =
    pick_both Small (or (leb 8 (length g.windows)) (leb 32 (length g.panes))) _ _ m (small_begun (numbered (with_windows g _ _)) g.next _ (small_same g _ refl refl m))

small_split : (g : Glass) (side : Bool) → SmallScreen g → Small (split_part g side)
small_split g side m =
    pick_both Small (large_enough side (place_of_focus g) && ltb (length g.panes) 32) _ _ (small_begun (numbered (with_windows g _ _)) g.next _ (small_same g _ refl refl m)) m

small_command : (known : ℕ → Bool) (g : Glass) (c : ℕ) → SmallScreen g → Small (command_part known g c)
unfolding command_part
small_command known g c m =
    pick_both Small (eqb c 1) _ _ m
    (pick_both Small (known c) _ _
    (pick_both Small (eqb c 99) _ _ (small_window g m)
    (pick_both Small (eqb c 110) _ _ (small_same g (next_window g) refl refl m)
    (pick_both Small (eqb c 112) _ _ (small_same g (previous_window g) refl refl m)
    (pick_both Small (eqb c 124) _ _ (small_split g true m)
    (pick_both Small (eqb c 45) _ _ (small_split g false m)
    (pick_both Small (eqb c 111) _ _ (small_same g (other_pane g) refl refl m)
    (pick_both Small (eqb c 120) _ _ m
    (pick_both Small (eqb c 100) _ _ (small_same g (left g) refl refl m) m)))))))) m)

small_bytes : (g : Glass) (i : ℕ) (bs : List ℕ) (ps : List Pane) → SmallScreen g → Small (on_bytes g i bs ps)
unfolding on_bytes
small_bytes g i bs [] m = m
small_bytes g i bs (p ∷ ps) m = small_same g _ refl refl m

small_looked : (g : Glass) (w h : ℕ) → proper_event (attach w h) ≡ true → SmallScreen (looked g w h)
unfolding proper_event
small_looked g w h e =
    let p = and_parts (leb 1 w && leb w 200) _ e in
    record { columns = leb-true w 200 (and_parts (leb 1 w) _ p.0).1; lines = leb-true h 60 (and_parts (leb 2 h) _ p.1).1 }

pub small_part : (known : ℕ → Bool) (g : Glass) (ev : Event) → proper_event ev ≡ true → SmallScreen g → SmallScreen (part known g ev).next
unfolding part
small_part known g (key c) e m =
    pick_both Small g.attached _ _
    (pick_both Small g.prefix _ _ (small_command known (with_prefix g false) c (small_same g (with_prefix g false) refl refl m)) (pick_both Small (eqb c 1) _ _ (small_same g (with_prefix g true) refl refl m) m)) m
small_part known g (from i bs) e m = small_bytes g i bs (pane_of g i) m
small_part known g (gone i) e m = pick_both Small (none_of (pane_of g i)) _ _ m (small_same g (without_pane g i) refl refl m)
small_part known g (attach w h) e m =
    let u = small_looked g w h e in
    pick_both Small (none_of g.windows) _ _ (small_window (looked g w h) u) u

-- THE BOUNDS
pub cells_at_rest : CellsAtRest
unfolding CellsAtRest
cells_at_rest g s m = (cells_most g s m, cells_rest g s)

pub cells_while_settling : CellsWhileSettling
unfolding CellsWhileSettling
cells_while_settling known g ev s a m e =
    let x : Glass = (part known g ev).next in
    let sx = sane_part known g ev s in
    let mx = small_part known g ev e m in (
      mx,
      λ n. (let p = steps_cells n x (part known g ev).says (places_once x sx) (panes_once x sx) in
          let q = part_grows known g ev s a in
          let r = cells_most x sx mx in
          let t = cells_rest g s a in
          let u = cells_most g s m in
          omega arith),
    )
