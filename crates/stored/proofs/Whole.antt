-- The whole promise of the machine for several windows and panes, whatever keys after the prefix are known.
use Rattle.std.proofs.Common.{◌≡◌, ℕ, ◌+◌, ◌^◌, ◌≤◌, Bool, true, false, not, ◌&&◌, ltb, leb, ◌⊎◌, List, [], ◌∷◌, ◌++◌, length, sym, refl, ap, ◌∙◌, subst, inl, inr, arith}
use lib.ListN.{length-replicate}
use Rattle.std.proofs.ByRecursion.{All-weaker}
use Rattle.std.proofs.lemmas.Bool.{cases_Bool, cond-true, cond-false}
use Rattle.meaning.specs.Words.{pick, or, every, so_many, none_of}
use Rattle.meaning.specs.Screen.{Term, fresh}
use Rattle.meaning.specs.Panes.{Glass, Window, pane, Place, Event, attach, Turn, turn, numbered, with_windows, begin_pane, all_places, settled, at_first}
use Rattle.meaning.specs.Promise.{ToldIt, next, Step, wait, proper_event, all_small, Steady, Right, Whole}
use Rattle.meaning.specs.Leaving.{glass_after, Through, Any, Silent, Seen, ComesBack}
use Rattle.meaning.proofs.Drawable.{Fine}
use Rattle.windows.specs.Counting.{times, place_ids, pane_ids, glass_ids}
use Rattle.windows.specs.Invariants.{Sane}
use Rattle.windows.specs.Settling.{count_unfit, AtRest}
use Rattle.windows.specs.Parts.{looked, attach_part, part}
use Rattle.windows.proofs.Sane.{sane_first, fit_keeps}
use Rattle.windows.proofs.Turns.{places_once, panes_once, part_settles}
use Rattle.render_law.proofs.Law.{writer_law}
use Rattle.engine.specs.State.{View, state, fresh_view, looks, going, proper_told, kept, machine_by}
use Rattle.engine.specs.Settling.{stepped_on}
use Rattle.engine.specs.Memory.{memory_size}
use Rattle.engine.proofs.Start.{all_zero}
use Rattle.engine.proofs.Maps.{placed}
use Rattle.engine.proofs.Machine.{Pictured, Viewed, EventRuns, all_right, all_through, all_silent, attach_seen}
use Rattle.engine.proofs.Pictures.{pictured_any}
use Rattle.engine.proofs.Good.{fresh_viewed}
use Rattle.engine.proofs.Settles.{good_room, good_fit, good_back, next_is, settling_event_runs}
use Rattle.stored.specs.Many.{many_fits, many_decode, many_encode}
use Rattle.stored.specs.Machine.{many_machine}
use Rattle.stored.proofs.Many.{many_back}
use Rattle.stored.proofs.Fit.{many_fit, length_many, small_many, many_zero}
use Rattle.stored.proofs.Terminals.{PaneGood}
use Rattle.stored.proofs.States.{Mid, Good, storable, mid_one, viewed_one, part_mid, part_viewed, turn_good, turn_viewed}

-- what the writer needs
pictured : (n : ℕ) (g : Glass) → Good n g → looks g ≡ true → Pictured g
pictured n g o l =
    let h = o.mid.held in
    pictured_any g (record {
      some_wide = h.some_wide;
      wide = h.wide;
      some_high = h.some_high;
      high = h.high;
      few = (let z = o.mid.sane.within.windows in omega arith);
      fine = All-weaker PaneGood (λ p. Fine p.term) (λ p q. q.fine) g.panes h.panes;
    })

-- what memory needs
abbrev Room : List ℕ → Type 0
Room m = length m ≡ memory_size

room : (n : ℕ) (m : List ℕ) (g : Glass) (v : View) → Room m → Mid n g → Viewed g v → Room (many_encode m (state g v))
room n m g v r o w = length_many m (state g v) ∙ r

fit : (n : ℕ) (m : List ℕ) (g : Glass) (v : View) → Room m → Mid n g → Viewed g v → many_fits (many_encode m (state g v)) ≡ true
fit n m g v r o w = many_fit m (state g v) r (storable n g v o w)

back : (n : ℕ) (m : List ℕ) (g : Glass) (v : View) → Room m → Mid n g → Viewed g v → many_decode (many_encode m (state g v)) ≡ state g v
back n m g v r o w = many_back m (state g v) r (storable n g v o w)

good_mid : (n : ℕ) (g : Glass) → Good n g → Mid n g
good_mid n g o = o.mid

good_rest : (n : ℕ) (g : Glass) → Good n g → AtRest g
good_rest n g o = o.rest

mid_good : (n : ℕ) (g : Glass) → Mid n g → AtRest g → Good n g
mid_good n g o r = record { mid = o; rest = r }

once_places : (n : ℕ) (g : Glass) → Mid n g → (i : ℕ) → times i (place_ids (all_places g)) ≤ 1
once_places n g o = places_once g o.sane

once_panes : (n : ℕ) (g : Glass) → Mid n g → (i : ℕ) → times i (pane_ids g.panes) ≤ 1
once_panes n g o = panes_once g o.sane

zeros : List ℕ
zeros = so_many memory_size 0

-- the start
first_good : (n : ℕ) → n ≤ 4294967296 → Good n at_first
unfolding count_unfit
first_good n h = record {
  mid = record {
    sane = sane_first;
    held = record { some_wide = omega arith; wide = omega arith; some_high = omega arith; high = omega arith; at = omega arith; left = omega arith; panes = tt };
    cells = omega arith;
  };
  rest = refl;
}

module _ (known : ℕ → Bool) where
  -- the same at rest
  good_room' : (n : ℕ) (m : List ℕ) (g : Glass) (v : View) → Room m → Good n g → Viewed g v → Room (many_encode m (state g v))
  good_room' = good_room known zeros many_fits many_decode many_encode Mid Good Room pictured room fit back good_mid good_rest mid_good

  good_fit' : (n : ℕ) (m : List ℕ) (g : Glass) (v : View) → Room m → Good n g → Viewed g v → many_fits (many_encode m (state g v)) ≡ true
  good_fit' = good_fit known zeros many_fits many_decode many_encode Mid Good Room pictured room fit back good_mid good_rest mid_good

  good_back' : (n : ℕ) (m : List ℕ) (g : Glass) (v : View) → Room m → Good n g → Viewed g v → many_decode (many_encode m (state g v)) ≡ state g v
  good_back' = good_back known zeros many_fits many_decode many_encode Mid Good Room pictured room fit back good_mid good_rest mid_good

  next_is' : (n : ℕ) (g : Glass) (v : View) → Good n g → stepped_on known (state g v) next ≡ going g v
  next_is' = next_is known zeros many_fits many_decode many_encode Mid Good Room pictured room fit back good_mid good_rest mid_good

  runs : EventRuns (stepped_on known) zeros many_fits many_decode many_encode Good Room pictured good_room' good_fit' good_back' next_is' known
  unfolding good_room' good_fit' good_back' next_is'
  runs =
      settling_event_runs known zeros many_fits many_decode many_encode Mid Good Room pictured room fit back good_mid good_rest mid_good mid_one once_places once_panes viewed_one (part_mid known)
      (λ n g v ev p o w. part_viewed known g v ev p w)

  right : (evs : List Event) → length evs ≤ 4294967296 → every proper_event evs ≡ true → Right known (machine_by (stepped_on known) zeros many_fits many_decode many_encode) zeros at_first (fresh 1 1) evs
  unfolding zeros
  right evs l p =
      all_right (stepped_on known) zeros many_fits many_decode many_encode Good Room pictured good_room' good_fit' good_back' next_is' known
      (turn_good known) (turn_viewed known) runs
      evs zeros at_first (fresh_view 1 1) (fresh 1 1) (sym (writer_law.begins 1 1)) p
      (record { does_fit = many_zero.0; is = many_zero.1; has_room = length-replicate {A = ℕ} memory_size 0; good = first_good (length evs) l; viewed = fresh_viewed at_first 1 1 refl refl (omega arith) (omega arith) })

  -- memory never grows, whatever it holds
  steady : Steady (many_machine known)
  unfolding Steady many_machine machine_by all_small
  steady =
      (let e = length-replicate {A = ℕ} memory_size 0 in let k = placed in omega arith, all_zero memory_size, λ m ev. step m ev (cases_Bool (many_fits m && proper_told ev)))
    where
      after : List ℕ → ToldIt → Step
      after m ev = pick (many_fits m && proper_told ev) (kept many_encode m (stepped_on known (many_decode m) ev)) (record { memory = m; act = wait })

      step : (m : List ℕ) (ev : ToldIt) → ((many_fits m && proper_told ev) ≡ true) ⊎ ((many_fits m && proper_told ev) ≡ false)
          → (length (after m ev).memory ≡ length m) × (every (λ x. ltb x (2 ^ 64)) m ≡ true → every (λ x. ltb x (2 ^ 64)) (after m ev).memory ≡ true)
      step m ev (inl f) =
          let e = cond-true (many_fits m && proper_told ev) (kept many_encode m (stepped_on known (many_decode m) ev)) (record { memory = m; act = wait }) f in
          (ap (λ (s : Step). length s.memory) e ∙ length_many m _, λ h. ap (λ (s : Step). every (λ x. ltb x (2 ^ 64)) s.memory) e ∙ small_many m _ h)
      step m ev (inr f) =
          let e = cond-false (many_fits m && proper_told ev) (kept many_encode m (stepped_on known (many_decode m) ev)) (record { memory = m; act = wait }) f in
          (ap (λ (s : Step). length s.memory) e, λ h. ap (λ (s : Step). every (λ x. ltb x (2 ^ 64)) s.memory) e ∙ h)

  pub whole_many : Whole known (many_machine known)
  unfolding Whole many_machine zeros machine_by
  whole_many = (steady, right)

  -- whoever attaches looks at a window: one that is there, or a new one if none is left
  begun_looks : (g : Glass) (i : ℕ) (qs : List Place) → looks g ≡ true → looks (begin_pane (numbered g) i qs).next ≡ true
  begun_looks g i [] e = e
  begun_looks g i (q ∷ qs) e = e

  part_looks : (g : Glass) (w h : ℕ) → Sane g → looks (part known g (attach w h)).next ≡ true
  unfolding part
  part_looks g w h s = go g.windows refl
    where
      go : (vs : List Window) → g.windows ≡ vs → looks (attach_part g w h).next ≡ true
      go [] e =
          let l = s.within.places in
          let n : length g.panes ≡ 0 = l ∙ ap (λ (vs : List Window). length (glass_ids vs)) e in
          let c : or (leb 8 (length g.windows)) (leb 32 (length g.panes)) ≡ false =
          ap (λ (vs : List Window). or (leb 8 (length vs)) (leb 32 (length g.panes))) e ∙ ap (λ (k : ℕ). leb 32 k) n in
          ap (λ (t : Turn). looks t.next) (cond-true (none_of g.windows) _ _ (ap none_of e) ∙ cond-false (or (leb 8 (length g.windows)) (leb 32 (length g.panes))) _ _ c)
          ∙ begun_looks (with_windows (looked g w h) (g.windows ++ record { layout = pane g.next; focus = g.next } ∷ []) (length g.windows)) g.next _
          (ap (λ (vs : List Window). not (none_of (vs ++ record { layout = pane g.next; focus = g.next } ∷ []))) e)
      go (v ∷ vs) e = ap (λ (t : Turn). looks t.next) (cond-false (none_of g.windows) _ _ (ap none_of e)) ∙ ap (λ (ws : List Window). not (none_of ws)) e

  attach_looks : (n : ℕ) (g : Glass) (w h : ℕ) → Good n g → looks (turn known g (attach w h)).next ≡ true
  unfolding settled
  attach_looks n g w h o =
      let x = part known g (attach w h) in
      let k = fit_keeps (all_places x.next) x.next x.says in
      ap (λ (t : Turn). looks t.next) (part_settles known g (attach w h) o.rest) ∙ (ap looks k.1 ∙ part_looks g w h o.mid.sane)

  -- after any time away
  pub back_many : ComesBack known (many_machine known)
  unfolding ComesBack many_machine zeros machine_by
  back_many before away w h l p q r y =
      subst (λ (t : Term). Through Any known (many_machine known) zeros at_first t before (λ m g u. Through Silent known (many_machine known) m g u away (Seen known (many_machine known) w h))) (writer_law.begins 1 1)
      (all_through (stepped_on known) zeros many_fits many_decode many_encode Good Room pictured good_room' good_fit' good_back' next_is' known (turn_good known) (turn_viewed known) runs
      before (length before + (length away + 1)) (length away + 1) zeros at_first (fresh_view 1 1) _ p refl
      (record { does_fit = many_zero.0; is = many_zero.1; has_room = length-replicate {A = ℕ} memory_size 0; good = first_good _ (omega arith); viewed = fresh_viewed at_first 1 1 refl refl (omega arith) (omega arith) })
      (λ m v o. all_silent (stepped_on known) zeros many_fits many_decode many_encode Good Room pictured good_room' good_fit' good_back' next_is' known (turn_good known) (turn_viewed known) runs
      away (length away + 1) 1 m (glass_after known at_first before) v _ q y refl o
      (λ m₁ v₁ o₁. attach_seen (stepped_on known) zeros many_fits many_decode many_encode Good Room pictured good_room' good_fit' good_back' next_is' known (turn_good known) (turn_viewed known) runs
      0 m₁ (glass_after known (glass_after known at_first before) away) v₁ w h r o₁ (attach_looks 1 _ w h o₁.good))))
