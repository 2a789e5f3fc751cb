-- The whole promise of the machine for one window with one pane, where of the keys after the prefix d is known or none.
use Rattle.std.proofs.Common.{◌≡◌, ℕ, zero, suc, ◌+◌, ◌*◌, ◌^◌, ◌≤◌, Bool, true, false, ◌&&◌, ltb, List, [], ◌∷◌, length, get_or, take, sym, refl, ap, ◌∙◌, subst, arith}
use lib.ListN.{length-replicate}
use Rattle.std.proofs.lemmas.Bool.{and_from, cond-true, eq-eqb, ne_eqb, or_left}
use Rattle.meaning.specs.Words.{pick, every, so_many}
use Rattle.meaning.specs.Screen.{Term, fresh}
use Rattle.meaning.specs.Panes.{Glass, Event, Pane, turn, at_first}
use Rattle.meaning.specs.Promise.{Engine, ToldIt, comes, next, Act, Step, wait, core, detaching, proper_event, all_small, Steady, Right, Whole}
use Rattle.meaning.specs.Leaving.{glass_after, Through, Any, Silent, Seen, ComesBack}
use Rattle.meaning.proofs.Small.{fine_style_small}
use Rattle.grid.specs.Cells.{rows_of, cells_of}
use Rattle.render_law.proofs.Law.{writer_law}
use Rattle.render_law.proofs.Rows.{rows_of_cells, length_cells}
use Rattle.engine.specs.State.{View, State, state, fresh_view, going, view_at, said_or_going, proper_told, taking, stepped, machine_by, machine_of}
use Rattle.engine.specs.Memory.{memory_size, memory_fits, decode, encode, with_cells, with_header}
use Rattle.engine.specs.Core.{core_machine}
use Rattle.engine.specs.Detaching.{detaching_machine}
use Rattle.engine.proofs.Areas.{length_put, small_put}
use Rattle.engine.proofs.Maps.{placed}
use Rattle.engine.proofs.Start.{all_zero}
use Rattle.engine.proofs.Core.{One, one_glass, empty}
use Rattle.engine.proofs.Same.{same_right}
use Rattle.engine.proofs.Machine.{Viewed, Holds, EventRuns, one_saying, all_right, all_through, all_silent, attach_seen}
use Rattle.engine.proofs.Pictures.{small_cells, every_fine}
use Rattle.engine.proofs.Back.{Kept, back_one, back_empty, fits_one, fits_empty}
use Rattle.engine.proofs.Good.{Good, one, none, OneOk, short_fits, pictured, sized, turn_good, turn_viewed, few_says, attach_looks, fresh_viewed}

-- the pane can be kept in memory
kept_one : (n : ℕ) (u : One) → OneOk n u → Kept u
kept_one n u o =
    let p = o.pane in
    let s = p.sound in
    let t = u.term in
    let w = s.is_wide in
    let h = s.is_high in
    let a = fine_style_small t.style p.fine.writes in
    let b = fine_style_small t.saved.style p.fine.saves in
    let x = p.some_wide in let y = p.wide in let c = p.some_high in let d = p.high in
    let on_row = s.on_row in let on_col = s.on_col in let inside = s.inside in
    let l : length t.rows ≡ t.high = s.as_high ∙ sym h in
    record {
      range = record {
        some_wide = omega arith;
        narrow = omega arith;
        some_high = omega arith;
        low = omega arith;
        on_row = omega arith;
        on_col = omega arith;
        ordered = s.ordered;
        inside = omega arith;
        writes = (a.marks, a.fore, a.back);
        saved_row = o.reads.saved_row;
        saved_col = o.reads.saved_col;
        saves = (b.marks, b.fore, b.back);
        reads = short_fits t.reading o.reads.short;
      };
      silent = o.silent;
      long = length_cells t.wide t.rows (rw w s.as_wide) ∙ ap (λ (k : ℕ). k * t.wide) l;
      rows = ap (λ (k : ℕ). rows_of t.wide k (cells_of t.rows)) (sym l) ∙ rows_of_cells t.wide t.rows (rw w s.as_wide) (every_fine t.rows p.fine.cells);
      small = small_cells t.rows p.fine.cells;
      number = o.number;
    }

-- a good state is found again, and seen to be there
back : (n : ℕ) (m : List ℕ) (g : Glass) (v : View) → length m ≡ memory_size → Good n g → Viewed g v → decode (encode m (state g v)) ≡ state g v
back n m _ v l (one u o) w = back_one m u v l (sized n (one_glass u) (one u o)) (kept_one n u o) w
back n m _ v l (none x y k a p o) w = back_empty m x y k a p v l (sized n (empty x y a k p) (none x y k a p o)) w

fit : (n : ℕ) (m : List ℕ) (g : Glass) (v : View) → length m ≡ memory_size → Good n g → Viewed g v → memory_fits (encode m (state g v)) ≡ true
fit n m _ v l (one u o) w = fits_one m u v l (sized n (one_glass u) (one u o)) (kept_one n u o) w
fit n m _ v l (none x y k a p o) w = fits_empty m x y k a p v l (sized n (empty x y a k p) (none x y k a p o)) w

-- memory never grows, whatever it holds
length_cells_in : (m : List ℕ) (ps : List Pane) → length (with_cells m ps) ≡ length m
length_cells_in m [] = refl
length_cells_in m (p ∷ ps) = length_put m _ _

length_header_in : (m : List ℕ) (ps : List Pane) → length (with_header m ps) ≡ length m
length_header_in m [] = refl
length_header_in m (p ∷ ps) = length_put m _ _

length_encode : (m : List ℕ) (s : State) → length (encode m s) ≡ length m
unfolding encode
length_encode m s = length_put _ 0 _ ∙ (length_header_in _ s.glass.panes ∙ (length_put _ _ _ ∙ length_cells_in m s.glass.panes))

Small : List ℕ → Type 0
Small m = every (λ x. ltb x (2 ^ 64)) m ≡ true

small_cells_in : (m : List ℕ) (ps : List Pane) → Small m → Small (with_cells m ps)
unfolding Small
small_cells_in m [] e = e
small_cells_in m (p ∷ ps) e = small_put m _ _ e

small_header_in : (m : List ℕ) (ps : List Pane) → Small m → Small (with_header m ps)
unfolding Small
small_header_in m [] e = e
small_header_in m (p ∷ ps) e = small_put m _ _ e

small_encode : (m : List ℕ) (s : State) → Small m → Small (encode m s)
unfolding Small encode
small_encode m s e = small_put _ 0 _ (small_header_in _ s.glass.panes (small_put _ _ _ (small_cells_in m s.glass.panes e)))

-- a step, or none, over memory
abbrev after : Bool → List ℕ → State → Act → Step
after b m s a = pick b (record { memory = encode m s; act = a }) (record { memory = m; act = wait })

keeps : (b : Bool) (m : List ℕ) (s : State) (a : Act)
    → (length (after b m s a).memory ≡ length m) × (every (λ x. ltb x (2 ^ 64)) m ≡ true → every (λ x. ltb x (2 ^ 64)) (after b m s a).memory ≡ true)
unfolding Small
keeps true m s a = (length_encode m s, small_encode m s)
keeps false m s a = (refl, λ h. h)

start_long : length (so_many {A = ℕ} memory_size 0) ≤ 262144
start_long = let e = length-replicate {A = ℕ} memory_size 0 in let k = placed in omega arith

steady_detaching : Steady detaching_machine
unfolding Steady detaching_machine machine_by all_small
steady_detaching = (start_long, all_zero memory_size, λ m ev. keeps (memory_fits m && proper_told ev) m (taking detaching (decode m) ev).state (taking detaching (decode m) ev).act)

steady_core : Steady core_machine
unfolding Steady core_machine machine_of all_small
steady_core = (start_long, all_zero memory_size, λ m ev. keeps (memory_fits m) m (stepped core (decode m) ev).state (stepped core (decode m) ev).act)

-- the start
zero_first : (n : ℕ) → get_or (take 16 (so_many {A = ℕ} n 0)) 0 0 ≡ 0
zero_first zero = refl
zero_first (suc n) = refl

start_fits : memory_fits (so_many memory_size 0) ≡ true
unfolding memory_fits
start_fits = and_from _ _ (eq-eqb _ _ (length-replicate memory_size 0)) (or_left _ _ (eq-eqb _ _ (zero_first memory_size)))

start_is : decode (so_many memory_size 0) ≡ state at_first (fresh_view 1 1)
unfolding decode
start_is = cond-true _ _ _ (eq-eqb _ _ (zero_first memory_size))

-- nobody has looked yet
first_good : (n : ℕ) → n ≤ 4294967296 → Good n at_first
first_good n h = none 1 1 1 false false (record { is = refl; some_wide = omega arith; wide = omega arith; some_high = omega arith; high = omega arith; left = omega arith })

abbrev Room : List ℕ → Type 0
Room m = length m ≡ memory_size

room : (n : ℕ) (m : List ℕ) (g : Glass) (v : View) → Room m → Good n g → Viewed g v → Room (encode m (state g v))
room n m g v r o w = length_encode m (state g v) ∙ r

zeros : List ℕ
zeros = so_many memory_size 0

module _ (known : ℕ → Bool) (few : (c : ℕ) → (c ≡ 100 → ⊥) → known c ≡ false) where
  -- the machine's own way with what comes
  next_is : (n : ℕ) (g : Glass) (v : View) → Good n g → taking known (state g v) next ≡ going g v
  unfolding taking
  next_is n g v o = refl

  comes_is : (g : Glass) (v : View) (ev : Event) → taking known (state g v) (comes ev) ≡ said_or_going (turn known g ev).next (view_at ev v) (turn known g ev).says
  unfolding taking
  comes_is g v ev = refl

  event_runs : EventRuns (taking known) zeros memory_fits decode encode Good Room pictured room fit back next_is known
  event_runs = one_saying (taking known) zeros memory_fits decode encode Good Room pictured room fit back next_is known (turn_good known few) (turn_viewed known few) (few_says known few) comes_is

  abbrev Held : ℕ → List ℕ → Glass → View → Type 0
  Held = Holds (taking known) zeros memory_fits decode encode Good Room pictured room fit back next_is

  start_holds : (n : ℕ) → n ≤ 4294967296 → Held n zeros at_first (fresh_view 1 1)
  unfolding zeros
  start_holds n l = record { does_fit = start_fits; is = start_is; has_room = length-replicate {A = ℕ} memory_size 0; good = first_good n l; viewed = fresh_viewed at_first 1 1 refl refl (omega arith) (omega arith) }

  abbrev engine : Engine
  engine = machine_by (taking known) zeros memory_fits decode encode

  all_keep : (evs : List Event) → length evs ≤ 4294967296 → every proper_event evs ≡ true → Right known engine zeros at_first (fresh 1 1) evs
  all_keep evs l p =
      all_right (taking known) zeros memory_fits decode encode Good Room pictured room fit back next_is known (turn_good known few) (turn_viewed known few) event_runs
      evs zeros at_first (fresh_view 1 1) (fresh 1 1) (sym (writer_law.begins 1 1)) p (start_holds (length evs) l)

  -- after any time away
  all_come_back : ComesBack known engine
  unfolding ComesBack machine_by
  all_come_back before away w h l p q r y =
      subst (λ (t : Term). Through Any known engine zeros at_first t before (λ m g u. Through Silent known engine m g u away (Seen known engine w h))) (writer_law.begins 1 1)
      (all_through (taking known) zeros memory_fits decode encode Good Room pictured room fit back next_is known (turn_good known few) (turn_viewed known few) event_runs
      before (length before + (length away + 1)) (length away + 1) zeros at_first (fresh_view 1 1) _ p refl (start_holds _ (omega arith))
      (λ m v o. all_silent (taking known) zeros memory_fits decode encode Good Room pictured room fit back next_is known (turn_good known few) (turn_viewed known few) event_runs
      away (length away + 1) 1 m (glass_after known at_first before) v _ q y refl o
      (λ m₁ v₁ o₁. attach_seen (taking known) zeros memory_fits decode encode Good Room pictured room fit back next_is known (turn_good known few) (turn_viewed known few) event_runs
      0 m₁ (glass_after known (glass_after known at_first before) away) v₁ w h r o₁ (attach_looks known few 1 _ w h o₁.good))))

few_detaching : (c : ℕ) → (c ≡ 100 → ⊥) → detaching c ≡ false
few_detaching c h = ne_eqb c 100 h

pub whole_detaching : Whole detaching detaching_machine
unfolding Whole detaching_machine zeros machine_by
whole_detaching = (steady_detaching, all_keep detaching few_detaching)

pub comes_back : ComesBack detaching detaching_machine
unfolding detaching_machine zeros
comes_back = all_come_back detaching few_detaching

fit_then : {A : Type 0} (b : Bool) (x y : A) → pick (b && true) x y ≡ pick b x y
fit_then true x y = refl
fit_then false x y = refl

-- where no key is known, and the machine keeps its state also when it is told what is not proper
same_proper : (m : List ℕ) (told : ToldIt) → proper_told told ≡ true → (machine_by (taking core) zeros memory_fits decode encode).step m told ≡ core_machine.step m told
unfolding zeros core_machine machine_of machine_by stepped taking proper_told
same_proper m next p = fit_then (memory_fits m) _ _
same_proper m (comes ev) p = rw p (fit_then (memory_fits m) _ _)

pub whole_core : Whole core core_machine
unfolding Whole core_machine machine_of zeros
whole_core = (steady_core, λ evs l p. same_right (machine_by (taking core) zeros memory_fits decode encode) core_machine same_proper core evs zeros at_first (fresh 1 1) p (all_keep core (λ c h. refl) evs l p))
