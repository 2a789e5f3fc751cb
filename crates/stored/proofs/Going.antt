-- What every state that can come about holds, also while sizes change, and that each thing that comes keeps it.
use Rattle.std.proofs.Common.{◌≡◌, ℕ, suc, ◌+◌, ◌-◌, ◌%◌, ◌^◌, ◌<◌, ◌≤◌, Bool, true, false, ◌&&◌, eqb, ltb, leb, List, [], ◌∷◌, length, refl, mod-lt, arith}
use Rattle.std.specs.List.{AllByRecursion}
use Rattle.std.proofs.ByRecursion.{All-append}
use Rattle.std.proofs.lemmas.Bool.{cond_both, leb-false}
use Rattle.meaning.specs.Words.{or, none_of, larger}
use Rattle.meaning.specs.Panes.{Glass, Place, Pane, Turn, Event, key, from, gone, attach, with_windows, with_prefix, numbered, all_places, place_in, begin_pane, place_of_focus, large_enough, other_pane, pane_of, on_bytes}
use Rattle.meaning.specs.Promise.{proper_event}
use Rattle.meaning.proofs.Controls.{pick_both}
use Rattle.windows.specs.Invariants.{Sane}
use Rattle.windows.specs.Parts.{begun_part, new_window_part, split_part, next_window, previous_window, left, looked, command_part, part}
use Rattle.windows.proofs.Sane.{sane_same}
use Rattle.engine.proofs.Good.{ProperSize, proper_size}
use Rattle.stored.proofs.Terminals.{PaneGood, SmallPlace, places_small, those_all, fresh_good, bytes_good}

-- sizes, numbers and terminals; n more things may come
pub record Held (n : ℕ) (g : Glass) : Type 0 where
  pub some_wide : 0 < g.wide
  pub wide : g.wide ≤ 200
  pub some_high : 0 < g.high
  pub high : g.high ≤ 60
  pub at : g.at < 8
  pub left : g.next + n < 2 ^ 47
  pub panes : AllByRecursion PaneGood g.panes

-- with other windows looked at, and one thing less to come
held_so : (n : ℕ) (g u : Glass) → u.wide ≡ g.wide → u.high ≡ g.high → u.next ≡ g.next → u.panes ≡ g.panes → u.at < 8 → Held (suc n) g → Held n u
held_so n g u w h k p a o = record {
  some_wide = rw w o.some_wide;
  wide = rw w o.wide;
  some_high = rw h o.some_high;
  high = rw h o.high;
  at = a;
  left = rw k (let l = o.left in omega arith);
  panes = rw p o.panes;
}

-- a new pane in the place that is there for it
held_begun : (n : ℕ) (u : Glass) (i : ℕ) → Held (suc n) u → Held n (begun_part u i).next
held_begun n u i o = go (place_in (all_places u) i) (those_all (λ q. SmallPlace q.rect) _ (all_places u) (places_small u o.wide o.high))
  where
    go : (qs : List Place) → AllByRecursion (λ q. SmallPlace q.rect) qs → Held n (begin_pane (numbered u) i qs).next
    go [] f = record { some_wide = o.some_wide; wide = o.wide; some_high = o.some_high; high = o.high; at = o.at; left = (let l = o.left in omega arith); panes = o.panes }
    go (q ∷ qs) f = record {
      some_wide = o.some_wide;
      wide = o.wide;
      some_high = o.some_high;
      high = o.high;
      at = o.at;
      left = (let l = o.left in omega arith);
      panes = All-append PaneGood u.panes _ o.panes (fresh_good i q.rect f.0, tt);
    }

held_windows : (n : ℕ) (g u : Glass) → u.wide ≡ g.wide → u.high ≡ g.high → u.next ≡ g.next → u.panes ≡ g.panes → u.at < 8 → Held n g → Held n u
held_windows n g u w h k p a o = record {
  some_wide = rw w o.some_wide;
  wide = rw w o.wide;
  some_high = rw h o.some_high;
  high = rw h o.high;
  at = a;
  left = rw k o.left;
  panes = rw p o.panes;
}

or_false : (a b : Bool) → or a b ≡ false → a ≡ false
or_false true b e = e
or_false false b e = refl

held_window : (n : ℕ) (g : Glass) → Held (suc n) g → Held n (new_window_part g).next
held_window n g o =
    cond_both (or (leb 8 (length g.windows)) (leb 32 (length g.panes))) _ _ (λ (t : Turn). Held n t.next) (λ _. held_so n g g refl refl refl refl o.at o)
    (λ e. held_begun n _ g.next (held_windows (suc n) g _ refl refl refl refl (let z = leb-false 8 (length g.windows) (or_false (leb 8 (length g.windows)) _ e) in omega arith) o))

held_split : (n : ℕ) (g : Glass) (side : Bool) → Held (suc n) g → Held n (split_part g side).next
held_split n g side o =
    pick_both (λ (t : Turn). Held n t.next) (large_enough side (place_of_focus g) && ltb (length g.panes) 32) _ _ (held_begun n _ g.next (held_windows (suc n) g _ refl refl refl refl o.at o))
    (held_so n g g refl refl refl refl o.at o)

round : (a k : ℕ) → k ≤ 8 → a % larger 1 k < 8
round a k h =
    let e : 0 < larger 1 k = omega arith in
    let z = mod-lt a e in
    omega arith

held_command : (known : ℕ → Bool) (n : ℕ) (g : Glass) (c : ℕ) → Sane g → Held (suc n) g → Held n (command_part known g c).next
unfolding command_part
held_command known n g c s o =
    let same : Held n g = held_so n g g refl refl refl refl o.at o in
    let few = s.within.windows in
    pick_both H (eqb c 1) _ _ same
    (pick_both H (known c) _ _
    (pick_both H (eqb c 99) _ _ (held_window n g o)
    (pick_both H (eqb c 110) _ _ (held_so n g (next_window g) refl refl refl refl (round (suc g.at) (length g.windows) few) o)
    (pick_both H (eqb c 112) _ _ (held_so n g (previous_window g) refl refl refl refl (round (g.at + length g.windows - 1) (length g.windows) few) o)
    (pick_both H (eqb c 124) _ _ (held_split n g true o)
    (pick_both H (eqb c 45) _ _ (held_split n g false o)
    (pick_both H (eqb c 111) _ _ (held_so n g (other_pane g) refl refl refl refl o.at o)
    (pick_both H (eqb c 120) _ _ same
    (pick_both H (eqb c 100) _ _ (held_so n g (left g) refl refl refl refl o.at o) same)))))))) same)
  where
    H : Turn → Type 0
    H t = Held n t.next

held_bytes : (n : ℕ) (g : Glass) (i : ℕ) (bs : List ℕ) (ps : List Pane) → AllByRecursion PaneGood ps → Held (suc n) g → Held n (on_bytes g i bs ps).next
unfolding on_bytes
held_bytes n g i bs [] f o = held_so n g g refl refl refl refl o.at o
held_bytes n g i bs (p ∷ ps) f o = record {
  some_wide = o.some_wide;
  wide = o.wide;
  some_high = o.some_high;
  high = o.high;
  at = o.at;
  left = (let l = o.left in omega arith);
  panes = bytes_good g i bs (p ∷ ps) f o.panes;
}

held_looked : (n : ℕ) (g : Glass) (w h : ℕ) → ProperSize w h → Held n g → Held n (looked g w h)
held_looked n g w h p o =
    record { some_wide = (let z = p.some_wide in omega arith); wide = p.wide; some_high = (let z = p.some_high in omega arith); high = p.high; at = o.at; left = o.left; panes = o.panes }

pub held_part : (known : ℕ → Bool) (n : ℕ) (g : Glass) (ev : Event) → proper_event ev ≡ true → Sane g → Held (suc n) g → Held n (part known g ev).next
unfolding part
held_part known n g (key c) p s o =
    let same : Held n g = held_so n g g refl refl refl refl o.at o in
    let H : Turn → Type 0 = λ t. Held n t.next in
    pick_both H g.attached _ _
    (pick_both H g.prefix _ _
    (held_command known n (with_prefix g false) c (sane_same g (with_prefix g false) refl refl refl s.current s) (held_windows (suc n) g (with_prefix g false) refl refl refl refl o.at o))
    (pick_both H (eqb c 1) _ _ (held_so n g (with_prefix g true) refl refl refl refl o.at o) same)) same
held_part known n g (from i bs) p s o = held_bytes n g i bs (pane_of g i) (those_all PaneGood _ g.panes o.panes) o
held_part known n g (gone i) p s o =
    pick_both (λ (t : Turn). Held n t.next) (none_of (pane_of g i)) _ _ (held_so n g g refl refl refl refl o.at o)
    (record {
      some_wide = o.some_wide;
      wide = o.wide;
      some_high = o.some_high;
      high = o.high;
      at = (let z = o.at in omega arith);
      left = (let l = o.left in omega arith);
      panes = those_all PaneGood _ g.panes o.panes;
    })
held_part known n g (attach w h) p s o =
    let u = held_looked (suc n) g w h (proper_size w h p) o in
    pick_both (λ (t : Turn). Held n t.next) (none_of g.windows) _ _ (held_window n (looked g w h) u) (held_so n (looked g w h) (looked g w h) refl refl refl refl o.at u)

-- SIZES: only who attaches changes that of the screen
abbrev SizedSo : ℕ → ℕ → Glass → Type 0
SizedSo w h u = (u.wide ≡ w) × (u.high ≡ h)

sized_begun : (w h : ℕ) (g : Glass) (i : ℕ) (qs : List Place) → SizedSo w h g → SizedSo w h (begin_pane g i qs).next
sized_begun w h g i [] e = e
sized_begun w h g i (q ∷ qs) e = e

sized_window : (w h : ℕ) (g : Glass) → SizedSo w h g → SizedSo w h (new_window_part g).next
sized_window w h g e =
    pick_both (λ (t : Turn). SizedSo w h t.next) (or (leb 8 (length g.windows)) (leb 32 (length g.panes))) _ _ e (sized_begun w h (numbered (with_windows g _ _)) g.next _ e)

sized_split : (w h : ℕ) (g : Glass) (side : Bool) → SizedSo w h g → SizedSo w h (split_part g side).next
sized_split w h g side e =
    pick_both (λ (t : Turn). SizedSo w h t.next) (large_enough side (place_of_focus g) && ltb (length g.panes) 32) _ _ (sized_begun w h (numbered (with_windows g _ _)) g.next _ e) e

sized_command : (known : ℕ → Bool) (w h : ℕ) (g : Glass) (c : ℕ) → SizedSo w h g → SizedSo w h (command_part known g c).next
unfolding command_part
sized_command known w h g c e =
    pick_both S (eqb c 1) _ _ e
    (pick_both S (known c) _ _
    (pick_both S (eqb c 99) _ _ (sized_window w h g e)
    (pick_both S (eqb c 110) _ _ e
    (pick_both S (eqb c 112) _ _ e
    (pick_both S (eqb c 124) _ _ (sized_split w h g true e)
    (pick_both S (eqb c 45) _ _ (sized_split w h g false e)
    (pick_both S (eqb c 111) _ _ e (pick_both S (eqb c 120) _ _ e (pick_both S (eqb c 100) _ _ e e)))))))) e)
  where
    S : Turn → Type 0
    S t = SizedSo w h t.next

sized_bytes : (g : Glass) (i : ℕ) (bs : List ℕ) (ps : List Pane) → SizedSo g.wide g.high (on_bytes g i bs ps).next
unfolding on_bytes
sized_bytes g i bs [] = (refl, refl)
sized_bytes g i bs (p ∷ ps) = (refl, refl)

pub sized_key : (known : ℕ → Bool) (g : Glass) (c : ℕ) → SizedSo g.wide g.high (part known g (key c)).next
unfolding part
sized_key known g c =
    let S : Turn → Type 0 = λ t. SizedSo g.wide g.high t.next in
    pick_both S g.attached _ _ (pick_both S g.prefix _ _ (sized_command known g.wide g.high (with_prefix g false) c (refl, refl)) (pick_both S (eqb c 1) _ _ (refl, refl) (refl, refl))) (refl, refl)

pub sized_from : (known : ℕ → Bool) (g : Glass) (i : ℕ) (bs : List ℕ) → SizedSo g.wide g.high (part known g (from i bs)).next
unfolding part
sized_from known g i bs = sized_bytes g i bs (pane_of g i)

pub sized_gone : (known : ℕ → Bool) (g : Glass) (i : ℕ) → SizedSo g.wide g.high (part known g (gone i)).next
unfolding part
sized_gone known g i = pick_both (λ (t : Turn). SizedSo g.wide g.high t.next) (none_of (pane_of g i)) _ _ (refl, refl) (refl, refl)

pub sized_attach : (known : ℕ → Bool) (g : Glass) (w h : ℕ) → SizedSo w h (part known g (attach w h)).next
unfolding part
sized_attach known g w h = pick_both (λ (t : Turn). SizedSo w h t.next) (none_of g.windows) _ _ (sized_window w h (looked g w h) (refl, refl)) (refl, refl)
