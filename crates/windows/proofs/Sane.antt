-- What always holds of windows and panes is kept by settling, and by all that a turn does before it settles.
use Rattle.std.proofs.Common.{◌≡◌, ℕ, suc, ◌+◌, ◌-◌, ◌%◌, ◌<◌, ◌≤◌, Bool, true, false, ◌&&◌, eqb, ltb, leb, ◌⊎◌, List, [], ◌∷◌, ◌++◌, length, get_or, sym, refl, ap, ◌∙◌, subst, ap₂, inl, inr, mod-lt, arith, length-append}
use Rattle.std.proofs.lemmas.Bool.Decides.{nat_tests}
use Rattle.std.proofs.lemmas.Bool.{ne_eqb, eq-eqb, and_parts, ltb-true, eqb-true, eqb-false, leb-false, cases_Bool}
use Rattle.meaning.specs.Words.{pick, each, none_of, put_at, larger, smaller}
use Rattle.meaning.specs.Screen.{Term, fresh, with_answer}
use Rattle.meaning.specs.Bytes.{written}
use Rattle.meaning.specs.Panes.{Glass, Window, Layout, pane, Place, ids, in_place, current, Pane, set_term, Says, Turn, Event, key, from, gone, attach, with_panes, with_windows, with_prefix, numbered, room, pane_wide, pane_high, pane_fitted, size_told, fit_places, all_places, settled, place_in, begin_pane, place_of_focus, large_enough, after, other_pane, windows_without, gone_before, pane_of, on_bytes, at_first}
use Rattle.meaning.proofs.Controls.{pick_both}
use Rattle.windows.specs.Counting.{times, place_ids, pane_ids, glass_ids}
use Rattle.windows.specs.Invariants.{Focused, Sane}
use Rattle.windows.specs.Parts.{two, without_pane, begun_part, new_window_part, split_part, next_window, previous_window, left, looked, command_part, part}
use Rattle.windows.proofs.Settle.{same_ids}
use Rattle.windows.proofs.Ids.{times_append, flat_append, each_append, length_each, ids_all, in_two, length_two, gone_times, gone_length, fewer, pane_times, pane_length, ids_some, first_there, focus_append, gone_focus, put_times, put_long, put_focus, at_focus}

-- SETTLING
pub fit_keeps : (qs : List Place) (g : Glass) (ss : List Says) →
    (ps : List Pane) × ((fit_places qs g ss).next ≡ with_panes g ps) × (pane_ids ps ≡ pane_ids g.panes)
unfolding fit_places
fit_keeps [] g ss = (g.panes, refl, refl)
fit_keeps (q ∷ qs) g ss = let h = fit_keeps qs (with_panes g (pane_fitted g.panes q)) (ss ++ size_told g.panes q) in (h.0, h.1, h.2 ∙ same_ids g.panes q)

same_length : (ps qs : List Pane) → pane_ids ps ≡ pane_ids qs → length ps ≡ length qs
same_length ps qs e = sym (length_each _ ps) ∙ (ap length e ∙ length_each _ qs)

-- other terminals in the same panes
pub sane_panes : (g : Glass) (ps : List Pane) → pane_ids ps ≡ pane_ids g.panes → Sane g → Sane (with_panes g ps)
sane_panes g ps e s =
    let l = same_length ps g.panes e in
    record {
      distinct = s.distinct;
      housed = λ i. ap (times i) e ∙ s.housed i;
      fresh_next = s.fresh_next;
      focused = s.focused;
      within = record { windows = s.within.windows; panes = (let z = s.within.panes in omega arith); places = l ∙ s.within.places };
      current = s.current;
    }

pub sane_settled : (g : Glass) (ss : List Says) → Sane g → Sane (settled g ss).next
unfolding settled
sane_settled g ss s = let h = fit_keeps (all_places g) g ss in subst Sane (sym h.1) (sane_panes g h.0 h.2 s)

-- another size, another viewer, the prefix: windows and panes are the same
pub sane_same : (g u : Glass) → u.windows ≡ g.windows → u.panes ≡ g.panes → u.next ≡ g.next → (0 < length g.windows → u.at < length g.windows) → Sane g → Sane u
sane_same g u w p n a s =
    record {
      distinct = rw w s.distinct;
      housed = rw (w, p) s.housed;
      fresh_next = rw (w, n) s.fresh_next;
      focused = rw w s.focused;
      within = record { windows = rw w s.within.windows; panes = rw p s.within.panes; places = rw (w, p) s.within.places };
      current = rw w a;
    }

-- A PROGRAM'S END
smaller_le : (a b : ℕ) → smaller a b ≤ b
smaller_le a b = grind (arith, nat_tests)

pub sane_without : (g : Glass) (i : ℕ) → Sane g → Sane (without_pane g i)
sane_without g i s =
    let ws : List Window = windows_without i g.windows in
    let q = pane_length i g.panes in
    let l = gone_length i g.windows in
    record {
      distinct = λ j. rw (gone_times i j g.windows) (let z = s.distinct j in grind (arith, nat_tests));
      housed = λ j. rw (pane_times i j g.panes, gone_times i j g.windows, s.housed j);
      fresh_next = λ j h. rw (gone_times i j g.windows) (let z = s.fresh_next j h in grind (arith, nat_tests));
      focused = gone_focus i g.windows s.focused;
      within = record {
        windows = (let b = s.within.windows in let c = fewer i g.windows in omega arith);
        panes = (let b = s.within.panes in omega arith);
        places = (let b = s.housed i in let c = s.within.places in omega arith);
      };
      current = λ h. (let z = smaller_le (g.at - gone_before i g.windows g.at) (length ws - 1) in omega arith);
    }

-- A NEW PANE
the_one : (qs : List Place) (i : ℕ) → 0 < times i (place_ids qs) → (q : Place) × (os : List Place) × (place_in qs i ≡ q ∷ os)
unfolding times
the_one [] i h = absurd (omega arith)
the_one (r ∷ qs) i h = go (cases_Bool (eqb r.id i)) (λ k. the_one qs i k)
  where
    go : (eqb r.id i ≡ true) ⊎ (eqb r.id i ≡ false) → (0 < times i (place_ids qs) → (q : Place) × (os : List Place) × (place_in qs i ≡ q ∷ os)) → (q : Place) × (os : List Place) × (place_in (r ∷ qs) i ≡ q ∷ os)
    go (inl e) later = (r, place_in qs i, rw e)
    go (inr e) later = let k = later (let z : 0 < 0 + times i (place_ids qs) = (rw (ne_eqb i r.id (λ x. eqb-false r.id i e (sym x))) at h) in omega arith) in (k.0, k.1, rw e k.2)

-- windows that have pane n besides, and all else as before
pub record More (vs : List Window) (n : ℕ) (ws : List Window) : Type 0 where
  pub here : (i : ℕ) → times i (glass_ids ws) ≡ times i (glass_ids vs) + pick (eqb i n) 1 0
  pub long : length (glass_ids ws) ≡ suc (length (glass_ids vs))
  pub focus : Focused ws

abbrev pub with_new : Glass → ℕ → Place → Glass
with_new g i q = with_panes g (g.panes ++ record { id = i; term = fresh (pane_wide q.rect) (pane_high q.rect) } ∷ [])

sane_new : (g : Glass) (ws : List Window) (k : ℕ) (q : Place) → Sane g → More g.windows g.next ws → length g.panes < 32 → length ws ≤ 8 → k < length ws →
    Sane (with_new (numbered (with_windows g ws k)) g.next q)
unfolding times
sane_new g ws k q s m p w a =
    let n : ℕ = g.next in
    let new : List Pane = record { id = n; term = fresh (pane_wide q.rect) (pane_high q.rect) } ∷ [] in
    record {
      distinct = λ i. rw (m.here i) (let x = s.distinct i in let y = s.fresh_next i in grind (arith, nat_tests));
      housed = λ i. rw (each_append (λ (p : Pane). p.id) g.panes new, times_append i (pane_ids g.panes) (n ∷ []), m.here i, s.housed i) (omega arith);
      fresh_next = λ i h. rw (m.here i, ne_eqb i n (λ e. absurd (omega arith))) (let x = s.fresh_next i (omega arith) in omega arith);
      focused = m.focus;
      within = record { windows = w; panes = rw (length-append g.panes new) (omega arith); places = rw (length-append g.panes new, m.long) (let x = s.within.places in omega arith) };
      current = λ _. a;
    }

begun_in : (u : Glass) (n : ℕ) (q : Place) (os qs : List Place) → qs ≡ q ∷ os → Sane (with_new (numbered u) n q) → Sane (begin_pane (numbered u) n qs).next
begun_in u n q os qs e s = subst (λ (x : List Place). Sane (begin_pane (numbered u) n x).next) (sym e) s

pub sane_begun : (g : Glass) (ws : List Window) (k : ℕ) → Sane g → More g.windows g.next ws → length g.panes < 32 → length ws ≤ 8 → k < length ws → Sane (begun_part (with_windows g ws k) g.next).next
sane_begun g ws k s m p w a =
    let u : Glass = with_windows g ws k in
    let n : ℕ = g.next in
    let z : times n (place_ids (all_places u)) ≡ 1 = ap (times n) (ids_all ws (room u)) ∙ (m.here n ∙ (rw (s.fresh_next n (omega arith), eq-eqb n n refl))) in
    let o = the_one (all_places u) n (omega arith) in
    begun_in u n o.0 o.1 (place_in (all_places u) n) o.2 (sane_new g ws k o.0 s m p w a)

pub sane_window : (g : Glass) → Sane g → Sane (new_window_part g).next
unfolding times ids
sane_window g s = go (cases_Bool (leb 8 (length g.windows))) (cases_Bool (leb 32 (length g.panes)))
  where
    ws : List Window
    ws = g.windows ++ record { layout = pane g.next; focus = g.next } ∷ []

    go : (leb 8 (length g.windows) ≡ true) ⊎ (leb 8 (length g.windows) ≡ false) → (leb 32 (length g.panes) ≡ true) ⊎ (leb 32 (length g.panes) ≡ false) → Sane (new_window_part g).next
    go (inl a) b = rw a s
    go (inr a) (inl b) = rw (a, b) s
    go (inr a) (inr b) =
        let c = leb-false 8 (length g.windows) a in
        let d = leb-false 32 (length g.panes) b in
        let l : length ws ≡ length g.windows + 1 = length-append g.windows (record { layout = pane g.next; focus = g.next } ∷ []) in
        let e : glass_ids ws ≡ glass_ids g.windows ++ g.next ∷ [] = flat_append (λ (v : Window). ids v.layout) g.windows (record { layout = pane g.next; focus = g.next } ∷ []) in
        rw (a, b) (sane_begun g ws (length g.windows) s
        (record {
          here = λ i. ap (times i) e ∙ (times_append i (glass_ids g.windows) (g.next ∷ []) ∙ omega arith);
          long = ap length e ∙ (length-append (glass_ids g.windows) (g.next ∷ []) ∙ omega arith);
          focus = focus_append g.windows _ s.focused (rw (eq-eqb g.next g.next refl) (omega arith), refl);
        })
        (omega arith) (omega arith) (omega arith))

-- A SPLIT
split_some : (g : Glass) (side : Bool) → 0 < length g.windows → Sane g → Sane (split_part g side).next
split_some g side h s = go (cases_Bool (large_enough side (place_of_focus g) && ltb (length g.panes) 32))
  where
    f : ℕ
    f = (current g).focus

    n : ℕ
    n = g.next

    w : Window
    w = record { layout = in_place (current g).layout f (two side f n); focus = n }

    ws : List Window
    ws = put_at g.windows g.at w

    more : More g.windows n ws
    more =
        let k = s.current h in
        let x = at_focus g.windows g.at k s.focused f in
        let one : times f (ids (current g).layout) ≡ 1 = (let y = s.distinct f in omega arith) in
        let new : times n (ids (current g).layout) ≡ 0 = (let y = s.fresh_next n (omega arith) in let z = at_focus g.windows g.at k s.focused n in omega arith) in
        record {
          here = λ i. (let a = put_times g.windows g.at w i k in let b = in_two (current g).layout side f n i in let c : times i (ids w.layout) ≡ times i (ids (current g).layout) + pick (eqb i n) 1 0 = (rw one at b) in omega arith);
          long = (let a = put_long g.windows g.at w k in let b = length_two (current g).layout side f n in omega arith);
          focus = put_focus g.windows g.at w s.focused (let b = in_two (current g).layout side f n n in let c : times n (ids w.layout) ≡ times n (ids (current g).layout) + 1 = (rw (eq-eqb n n refl, one) at b) in omega arith);
        }

    go : ((large_enough side (place_of_focus g) && ltb (length g.panes) 32) ≡ true) ⊎ ((large_enough side (place_of_focus g) && ltb (length g.panes) 32) ≡ false) → Sane (split_part g side).next
    go (inl a) =
        let p = ltb-true (length g.panes) 32 (and_parts (large_enough side (place_of_focus g)) _ a).1 in
        let l = put_long g.windows g.at w (s.current h) in
        rw a (sane_begun g ws g.at s more p (let z = s.within.windows in omega arith) (let z = s.current h in omega arith))
    go (inr a) = rw a s

-- with no window there is nothing to split, and only a number is lost
begun_none : (g : Glass) (ws : List Window) (k i : ℕ) → g.windows ≡ [] → ws ≡ [] → Sane g → Sane (begun_part (with_windows g ws k) i).next
unfolding times
begun_none g ws k i e w s =
    subst (λ (vs : List Window). Sane (begun_part (with_windows g vs k) i).next) (sym w)
    (record {
      distinct = λ j. omega arith;
      housed = λ j. s.housed j ∙ ap (λ (vs : List Window). times j (glass_ids vs)) e;
      fresh_next = λ j h. refl;
      focused = refl;
      within = record { windows = omega arith; panes = s.within.panes; places = s.within.places ∙ ap (λ (vs : List Window). length (glass_ids vs)) e };
      current = λ h. absurd (omega arith);
    })

split_none : (g : Glass) (side : Bool) → g.windows ≡ [] → Sane g → Sane (split_part g side).next
split_none g side e s =
    pick_both (λ (t : Turn). Sane t.next) (large_enough side (place_of_focus g) && ltb (length g.panes) 32) _ _
    (begun_none g (put_at g.windows g.at w) g.at g.next e (ap (λ (vs : List Window). put_at vs g.at w) e) s) s
  where
    w : Window
    w = record { layout = in_place (current g).layout (current g).focus (two side (current g).focus g.next); focus = g.next }

pub sane_split : (g : Glass) (side : Bool) → Sane g → Sane (split_part g side).next
sane_split g side s = go g.windows refl
  where
    go : (vs : List Window) → g.windows ≡ vs → Sane (split_part g side).next
    go [] e = split_none g side e s
    go (v ∷ vs) e = split_some g side (rw e (omega arith)) s

-- ANOTHER FOCUS, ANOTHER WINDOW
after_there : (i : ℕ) (js whole : List ℕ) → 0 < length whole → ((j : ℕ) → times j js ≤ times j whole) → 0 < times (after i js whole) whole
unfolding after times
after_there i [] whole h k = first_there whole h
after_there i (j ∷ js) whole h k = pick_both There (eqb i j) _ _ (go js (λ m. k m)) (after_there i js whole h (λ m. let z = k m in omega arith))
  where
    There : ℕ → Type 0
    There m = 0 < times m whole

    go : (ms : List ℕ) → ((m : ℕ) → times m (j ∷ ms) ≤ times m whole) → 0 < times (pick (none_of ms) (get_or whole 0 0) (get_or ms 0 0)) whole
    go [] k₁ = first_there whole h
    go (m ∷ ms) k₁ = let z = k₁ m in let y : pick (eqb m j) 1 0 + (1 + times m ms) ≤ times m whole = (rw (eq-eqb m m refl) at z) in omega arith

pub sane_other : (g : Glass) → Sane g → Sane (other_pane g)
sane_other g s = go g.windows refl
  where
    l : Layout
    l = (current g).layout

    w : Window
    w = record { layout = l; focus = after (current g).focus (ids l) (ids l) }

    ws : List Window
    ws = put_at g.windows g.at w

    go : (vs : List Window) → g.windows ≡ vs → Sane (other_pane g)
    go [] e = sane_same g (other_pane g) (ap (λ (vs : List Window). put_at vs g.at w) e ∙ sym e) refl refl (λ h. s.current h) s
    go (v ∷ vs) e =
        let k = s.current (rw e (omega arith)) in
        let same : (i : ℕ) → times i (glass_ids ws) ≡ times i (glass_ids g.windows) = λ i. (let a = put_times g.windows g.at w i k in omega arith) in
        let long = put_long g.windows g.at w k in
        record {
          distinct = λ i. rw (same i) (s.distinct i);
          housed = λ i. s.housed i ∙ sym (same i);
          fresh_next = λ i h. same i ∙ s.fresh_next i h;
          focused = put_focus g.windows g.at w s.focused (after_there (current g).focus (ids l) (ids l) (ids_some l) (λ j. omega arith));
          within = record { windows = (let z = s.within.windows in omega arith); panes = s.within.panes; places = s.within.places ∙ (let z = long.0 in omega arith) };
          current = λ h. (let z = long.1 in omega arith);
        }

turned_within : (a n : ℕ) → 0 < n → a % larger 1 n < n
turned_within a n h = let e : larger 1 n ≡ n = grind (arith, nat_tests) in rw e (mod-lt a h)

pub sane_next : (g : Glass) → Sane g → Sane (next_window g)
sane_next g s = sane_same g (next_window g) refl refl refl (turned_within (suc g.at) (length g.windows)) s

pub sane_previous : (g : Glass) → Sane g → Sane (previous_window g)
sane_previous g s = sane_same g (previous_window g) refl refl refl (turned_within (g.at + length g.windows - 1) (length g.windows)) s

-- BYTES FROM A PROGRAM
set_ids : (i : ℕ) (t : Term) (ps : List Pane) → pane_ids (each (set_term i t) ps) ≡ pane_ids ps
set_ids i t [] = refl
set_ids i t (p ∷ ps) = ap₂ (λ (x : ℕ) (y : List ℕ). x ∷ y) (go (cases_Bool (eqb p.id i))) (set_ids i t ps)
  where
    go : (eqb p.id i ≡ true) ⊎ (eqb p.id i ≡ false) → (set_term i t p).id ≡ p.id
    go (inl e) = rw e (sym (eqb-true p.id i e))
    go (inr e) = rw e

pub sane_bytes : (g : Glass) (i : ℕ) (bs : List ℕ) (ps : List Pane) → Sane g → Sane (on_bytes g i bs ps).next
unfolding on_bytes
sane_bytes g i bs [] s = s
sane_bytes g i bs (p ∷ ps) s = sane_panes g _ (set_ids i (with_answer (written p.term bs) []) g.panes) s

-- ALL THAT A TURN DOES BEFORE IT SETTLES
abbrev pub NextSane : Turn → Type 0
NextSane t = Sane t.next

pub sane_command : (known : ℕ → Bool) (g : Glass) (c : ℕ) → Sane g → Sane (command_part known g c).next
unfolding command_part
sane_command known g c s =
    pick_both NextSane (eqb c 1) _ _ s
    (pick_both NextSane (known c) _ _
    (pick_both NextSane (eqb c 99) _ _ (sane_window g s)
    (pick_both NextSane (eqb c 110) _ _ (sane_next g s)
    (pick_both NextSane (eqb c 112) _ _ (sane_previous g s)
    (pick_both NextSane (eqb c 124) _ _ (sane_split g true s)
    (pick_both NextSane (eqb c 45) _ _ (sane_split g false s)
    (pick_both NextSane (eqb c 111) _ _ (sane_other g s)
    (pick_both NextSane (eqb c 120) _ _ s
    (pick_both NextSane (eqb c 100) _ _ (sane_same g (left g) refl refl refl s.current s) s))))))))
    s)

pub sane_part : (known : ℕ → Bool) (g : Glass) (ev : Event) → Sane g → Sane (part known g ev).next
unfolding part
sane_part known g (key c) s =
    let p : (b : Bool) → Sane (with_prefix g b) = λ b. sane_same g (with_prefix g b) refl refl refl s.current s in
    pick_both NextSane g.attached _ _ (pick_both NextSane g.prefix _ _ (sane_command known (with_prefix g false) c (p false)) (pick_both NextSane (eqb c 1) _ _ (p true) s)) s
sane_part known g (from i bs) s = sane_bytes g i bs (pane_of g i) s
sane_part known g (gone i) s = pick_both NextSane (none_of (pane_of g i)) _ _ s (sane_without g i s)
sane_part known g (attach w h) s =
    let u : Sane (looked g w h) = sane_same g (looked g w h) refl refl refl s.current s in
    pick_both NextSane (none_of g.windows) _ _ (sane_window (looked g w h) u) u

pub sane_first : Sane at_first
unfolding times
sane_first = record {
  distinct = λ i. omega arith;
  housed = λ i. refl;
  fresh_next = λ i h. refl;
  focused = refl;
  within = record { windows = omega arith; panes = omega arith; places = refl };
  current = λ h. absurd (omega arith);
}
