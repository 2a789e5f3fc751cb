-- A whole step, as its contract states it.
use Rattle.std.proofs.Common.{◌≡◌, ℕ, ◌*◌, ◌<◌, ◌≤◌, Bool, true, false, ◌&&◌, eqb, leb, List, [], ◌∷◌, ◌++◌, length, drop, sym, refl, ap, ◌∙◌, subst, arith, length-take}
use Rattle.std.specs.Array.{IsWholeChunk, IsFirstChunk}
use Rattle.std.proofs.lemmas.List.{take-append-drop}
use Rattle.std.proofs.lemmas.Bool.{and_from, and_left, and_right, cond-true, cond-false, eq-eqb, ne_eqb, le-leb, lt-leb}
use Rattle.meaning.specs.Words.{so_many}
use Rattle.meaning.specs.Panes.{Glass, Event, gone, attach, turn, on_bytes, at_first}
use Rattle.meaning.specs.Promise.{ToldIt, comes, next, Act, wait, Step, proper_event, core, detaching}
use Rattle.meaning.specs.Entry.{StepSays, ActTold, step_fits, told_of}
use Rattle.meaning.specs.declared.answer.Told.{Told}
use Rattle.meaning.specs.declared.answer.Told.TheVariants.{Wait, No}
use Rattle.grid.specs.Cells.{blank_number}
use Rattle.engine.specs.Areas.{over}
use Rattle.engine.specs.State.{State, Out, state, out, fresh_view, going, view_at, said_or_going, proper_told, taking, kept, machine_by}
use Rattle.engine.specs.Memory.{memory_size, screen_at, memory_fits, decode, encode}
use Rattle.engine.specs.Detaching.{detaching_machine}
use Rattle.engine.proofs.Start.{detaching_start}
use Rattle.engine.proofs.Maps.{placed}
use Rattle.machine.specs.States.{glass_of, view_of, state_of}
use Rattle.machine.specs.declared.state.Machine.{Machine}
use Rattle.turns.specs.Does.{Does}
use Rattle.live.specs.Coming.{event_of, sizes_fit, ToldSays}
use Rattle.live.specs.declared.coming.Coming.{Coming}
use Rattle.live.specs.declared.coming.Coming.TheVariants.{Key, From, Gone, Look}
use Rattle.live.specs.Goes.{Goes}
use Rattle.turns.specs.Turned.{then_goes, turned_by}
use Rattle.live.specs.Turned.{turned, AtFirst}
use Rattle.turns.proofs.Viewing.{viewed_so, after_cells}
use Rattle.turns.proofs.Taken.{act_lent}

-- the machine's step where it does something, and where it does nothing
own_takes : (m : List ℕ) (t : ToldIt) → memory_fits m ≡ true → proper_told t ≡ true → detaching_machine.step m t ≡ kept encode m (taking detaching (decode m) t)
unfolding detaching_machine machine_by
own_takes m t f p = cond-true (memory_fits m && proper_told t) _ _ (and_from _ _ f p)

own_rests : (m : List ℕ) (t : ToldIt) → (memory_fits m && proper_told t) ≡ false → detaching_machine.step m t ≡ record { memory = m; act = wait }
unfolding detaching_machine machine_by
own_rests m t e = cond-false (memory_fits m && proper_told t) _ _ e

-- a state was found, and this is what it does
pub goes_does : (m m₁ ys ys₁ : List ℕ) (t : ToldIt) (s : State) (r : Told) → memory_fits m ≡ true → decode m ≡ s → proper_told t ≡ true → Does (taking detaching s t) m m₁ r ys ys₁
    → Goes t m m₁ r ys ys₁
goes_does m m₁ ys ys₁ t s r f e p d =
    let q : detaching_machine.step m t ≡ kept encode m (taking detaching s t) = own_takes m t f p ∙ ap (λ (z : State). kept encode m (taking detaching z t)) e in
    record {
      memory = d.memory ∙ sym (ap (λ (z : Step). z.memory) q);
      act = subst (λ (z : Act). ActTold z r ys ys₁) (sym (ap (λ (z : Step). z.act) q)) d.act;
    }

pub goes_turned : (x : Machine) (m m₁ ys ys₁ : List ℕ) (t ev : Event) (r : Told) → memory_fits m ≡ true → decode m ≡ state_of x m → proper_event t ≡ true → t ≡ ev
    → Does (turned x m ev) m m₁ r ys ys₁ → Goes (comes t) m m₁ r ys ys₁
unfolding taking state_of proper_told
goes_turned x m m₁ ys ys₁ t ev r f e p c d = goes_does m m₁ ys ys₁ (comes t) (state_of x m) r f e p (subst (λ (z : Event). Does (taking detaching (state_of x m) (comes z)) m m₁ r ys ys₁) (sym c) d)

pub goes_on : (x : Machine) (m m₁ ys ys₁ : List ℕ) (r : Told) → memory_fits m ≡ true → decode m ≡ state_of x m
    → Does (going (glass_of x m) (view_of x m)) m m₁ r ys ys₁ → Goes next m m₁ r ys ys₁
unfolding taking state_of proper_told
goes_on x m m₁ ys ys₁ r f e d = goes_does m m₁ ys ys₁ next (state_of x m) r f e refl d

-- no key is known to a program's end
pub end_turned : (x : Machine) (m m₁ ys ys₁ : List ℕ) (i : ℕ) (r : Told) → Does (turned_by core x m (gone i)) m m₁ r ys ys₁ → Does (turned x m (gone i)) m m₁ r ys ys₁
unfolding turn
end_turned x m m₁ ys ys₁ i r d = d

rests : (m ys : List ℕ) (t : ToldIt) → (memory_fits m && proper_told t) ≡ false → Goes t m m Wait ys ys
unfolding ActTold
rests m ys t e =
    let q = own_rests m t e in
    record { memory = sym (ap (λ (z : Step). z.memory) q); act = subst (λ (z : Act). ActTold z Wait ys ys) (sym (ap (λ (z : Step). z.act) q)) (refl, refl) }

pub rests_odd : (m ys : List ℕ) (ev : Event) → proper_event ev ≡ false → Goes (comes ev) m m Wait ys ys
unfolding proper_told
rests_odd m ys ev e = rests m ys (comes ev) (and_right (memory_fits m) (proper_event ev) e)

pub rests_not : (m ys : List ℕ) (t : ToldIt) → memory_fits m ≡ false → Goes t m m Wait ys ys
rests_not m ys t e = rests m ys t (and_left (memory_fits m) (proper_told t) e)

-- THE FIRST THING THAT COMES
abbrev pub first_state : State
first_state = state at_first (fresh_view 1 1)

first_quiet : (x : Coming) (bs : List ℕ) → ((w h : ℕ) → x ≡ Look w h → ⊥) → taking detaching first_state (comes (event_of x bs)) ≡ out at_first (fresh_view 1 1) wait
unfolding taking said_or_going going view_at turn on_bytes
first_quiet (Key c) bs n = refl
first_quiet (From i) bs n = refl
first_quiet (Gone i) bs n = refl
first_quiet (Look w h) bs n = absurd (n w h refl)

-- nothing is done
pub goes_quiet : (m m₁ ys : List ℕ) (x : Coming) (bs : List ℕ) (r : Told) → memory_fits m ≡ true → decode m ≡ first_state → proper_event (event_of x bs) ≡ true
    → ((w h : ℕ) → x ≡ Look w h → ⊥) → Does (out at_first (fresh_view 1 1) wait) m m₁ r ys ys → Goes (comes (event_of x bs)) m m₁ r ys ys
unfolding proper_told
goes_quiet m m₁ ys x bs r f e p n d =
    goes_does m m₁ ys ys (comes (event_of x bs)) first_state r f e p (subst (λ (o : Out). Does o m m₁ r ys ys) (sym (first_quiet x bs n)) d)

pub goes_on_quiet : (m m₁ ys : List ℕ) (r : Told) → memory_fits m ≡ true → decode m ≡ first_state → Does (out at_first (fresh_view 1 1) wait) m m₁ r ys ys → Goes next m m₁ r ys ys
unfolding taking going proper_told
goes_on_quiet m m₁ ys r f e d = goes_does m m₁ ys ys next first_state r f e refl d

-- somebody attaches: what the viewer's screen held is of no matter
pub goes_first : (x : Machine) (m m₁ ys : List ℕ) (t : Event) (w h : ℕ) (r : Told) → memory_fits m ≡ true → decode m ≡ first_state → proper_event t ≡ true → t ≡ attach w h → AtFirst x
    → Does (turned x m (attach w h)) m m₁ r ys ys → Goes (comes t) m m₁ r ys ys
unfolding taking view_at proper_told
goes_first x m m₁ ys t w h r f e p c a d =
    goes_does m m₁ ys ys (comes t) first_state r f e p
    (subst (λ (z : Event). Does (taking detaching first_state (comes z)) m m₁ r ys ys) (sym c)
    (subst (λ (g : Glass). Does (then_goes (fresh_view w h) (turn detaching g (attach w h))) m m₁ r ys ys) (a.glass m) d))

-- the machine as it is at first, stored
pub settles_in : (x : Machine) (m m₁ m₂ ys : List ℕ) → length m ≡ 238304 → AtFirst x → m₁ ≡ over m 2304 (so_many (x.size.high * x.size.wide) blank_number)
    → m₂ ≡ encode m₁ (state (glass_of x m₁) (view_of x m₁)) → Does (out at_first (fresh_view 1 1) wait) m m₂ Wait ys ys
unfolding ActTold state_of
settles_in x m m₁ m₂ ys l a b c =
    let w = a.wide in
    let h = a.high in
    let lm : length m ≡ memory_size = l ∙ sym placed.size in
    let one : so_many (x.size.high * x.size.wide) blank_number ≡ blank_number ∷ [] = (λ i. so_many (h i * w i) blank_number) in
    let o : m₁ ≡ over m screen_at (blank_number ∷ []) = b ∙ (ap (over m 2304) one ∙ ap (λ (j : ℕ). over m j (blank_number ∷ [])) (sym placed.screen)) in
    let n : ◌≡◌ {A = ℕ} 1 (x.size.high * x.size.wide) = sym (λ i. h i * w i) in
    let v : viewed_so x m (blank_number ∷ []) x.pen ≡ first_state =
    ap (λ (g : Glass). state g (record { wide = x.size.wide; high = x.size.high; cells = blank_number ∷ []; pen = x.pen })) (a.glass m)
    ∙ (λ i. state at_first (record { wide = w i; high = h i; cells = blank_number ∷ []; pen = a.pen i })) in
    record {
      memory = c ∙ (ap (λ (u : List ℕ). encode u (state (glass_of x u) (view_of x u))) o ∙ (after_cells m (blank_number ∷ []) x lm n ∙ ap (encode m) v));
      act = (refl, refl);
    }

-- THE CONTRACTS
-- over the memory as an array and the first 65,536 bytes of a row, and over both as they were lent
goes_lent : (t : ToldIt) (m array m₁ ys first front : List ℕ) (r : Told) → IsWholeChunk m array 238304 → IsFirstChunk ys first 65536 → length front ≡ 65536
    → Goes t array m₁ r first front → Goes t m m₁ r ys (front ++ drop 65536 ys)
goes_lent t m array m₁ ys first front r w f l g₀ =
    let g₁ = subst (λ (y : List ℕ). Goes t y m₁ r first front) w.same g₀ in
    let g = subst (λ (y : List ℕ). Goes t m m₁ r y front) f.same g₁ in
    record { memory = g.memory; act = act_lent ys front 65536 f.enough l _ r g.act }

pub first_long : (ys first : List ℕ) (n : ℕ) → IsFirstChunk ys first n → length first ≡ n
first_long ys first n f = ap length f.same ∙ (length-take n ys ∙ (let e = f.enough in omega arith))

sizes_are : (m ys : List ℕ) → sizes_fit detaching_machine m ys ≡ (eqb (length m) 238304 && leb 65536 (length ys))
sizes_are m ys = rw detaching_start

pub sizes_right : (m array ys first : List ℕ) → IsWholeChunk m array 238304 → IsFirstChunk ys first 65536 → sizes_fit detaching_machine m ys ≡ true
sizes_right m array ys first w f = sizes_are m ys ∙ and_from _ _ (eq-eqb _ _ w.long) (le-leb _ _ f.enough)

pub sizes_wrong : (m ys : List ℕ) → (length m ≡ 238304 → ⊥) → sizes_fit detaching_machine m ys ≡ false
sizes_wrong m ys n = sizes_are m ys ∙ and_left _ _ (ne_eqb _ _ n)

pub row_short : (m ys : List ℕ) → length ys < 65536 → sizes_fit detaching_machine m ys ≡ false
row_short m ys h = sizes_are m ys ∙ and_right (eqb (length m) 238304) _ (lt-leb _ _ h)

pub tells : (t : ToldIt) (m array m₁ ys first front : List ℕ) (r : Told) → IsWholeChunk m array 238304 → IsFirstChunk ys first 65536 → length front ≡ 65536
    → Goes t array m₁ r first front → ToldSays detaching_machine t m ys (sizes_fit detaching_machine m ys) r m₁ (front ++ drop 65536 ys)
unfolding ToldSays
tells t m array m₁ ys first front r w f l g₀ =
    let g = goes_lent t m array m₁ ys first front r w f l g₀ in
    subst (λ (b : Bool). ToldSays detaching_machine t m ys b r m₁ (front ++ drop 65536 ys)) (sym (sizes_right m array ys first w f)) (g.memory, g.act)

pub tells_no : (t : ToldIt) (m m₁ ys ys₁ : List ℕ) → sizes_fit detaching_machine m ys ≡ false → m₁ ≡ m → ys₁ ≡ ys → ToldSays detaching_machine t m ys (sizes_fit detaching_machine m ys) (No 0) m₁ ys₁
unfolding ToldSays
tells_no t m m₁ ys ys₁ s e f = subst (λ (b : Bool). ToldSays detaching_machine t m ys b (No 0) m₁ ys₁) (sym s) (refl, e, f)

pub fits_is : (m : List ℕ) (kind : ℕ) (ys : List ℕ) → step_fits detaching_machine m kind ys ≡ (eqb (length m) 238304 && (leb kind 4 && leb 65536 (length ys)))
unfolding step_fits
fits_is m kind ys = rw detaching_start

-- told in numbers
pub steps : (t : ToldIt) (m array m₁ ys first front : List ℕ) (kind a b : ℕ) (bs : List ℕ) (r : Told) → IsWholeChunk m array 238304 → IsFirstChunk ys first 65536 → length front ≡ 65536
    → kind ≤ 4 → t ≡ told_of kind a b bs → Goes t array m₁ r first front
    → StepSays detaching_machine m kind a b bs ys (step_fits detaching_machine m kind ys) r m₁ (front ++ drop 65536 ys)
unfolding StepSays
steps t m array m₁ ys first front kind a b bs r w f l k e g₀ =
    let g₁ = subst (λ (u : ToldIt). Goes u array m₁ r first front) e g₀ in
    let g = goes_lent (told_of kind a b bs) m array m₁ ys first front r w f l g₁ in
    let s : step_fits detaching_machine m kind ys ≡ true = fits_is m kind ys ∙ and_from _ _ (eq-eqb _ _ w.long) (and_from _ _ (le-leb _ _ k) (le-leb _ _ f.enough)) in
    subst (λ (v : Bool). StepSays detaching_machine m kind a b bs ys v r m₁ (front ++ drop 65536 ys)) (sym s) (g.memory, g.act)

steps_no : (m m₁ : List ℕ) (kind a b : ℕ) (bs ys ys₁ : List ℕ) → (eqb (length m) 238304 && (leb kind 4 && leb 65536 (length ys))) ≡ false → m₁ ≡ m → ys₁ ≡ ys
    → StepSays detaching_machine m kind a b bs ys (step_fits detaching_machine m kind ys) (No 0) m₁ ys₁
unfolding StepSays
steps_no m m₁ kind a b bs ys ys₁ s e f = subst (λ (v : Bool). StepSays detaching_machine m kind a b bs ys v (No 0) m₁ ys₁) (sym (fits_is m kind ys ∙ s)) (refl, e, f)

pub other_size : (m : List ℕ) (kind a b : ℕ) (bs ys : List ℕ) → (length m ≡ 238304 → ⊥) → StepSays detaching_machine m kind a b bs ys (step_fits detaching_machine m kind ys) (No 0) m ys
other_size m kind a b bs ys n = steps_no m m kind a b bs ys ys (and_left _ _ (ne_eqb _ _ n)) refl refl

pub short_row : (m array : List ℕ) (kind a b : ℕ) (bs ys : List ℕ) → IsWholeChunk m array 238304 → length ys < 65536
    → StepSays detaching_machine m kind a b bs ys (step_fits detaching_machine m kind ys) (No 0) array ys
short_row m array kind a b bs ys w h = steps_no m array kind a b bs ys ys (and_right (eqb (length m) 238304) _ (and_right (leb kind 4) _ (lt-leb _ _ h))) w.same refl

pub other_kind : (m array ys first : List ℕ) (kind a b : ℕ) (bs : List ℕ) → IsWholeChunk m array 238304 → IsFirstChunk ys first 65536 → 4 < kind
    → StepSays detaching_machine m kind a b bs ys (step_fits detaching_machine m kind ys) (No 0) array (first ++ drop 65536 ys)
other_kind m array ys first kind a b bs w f h =
    steps_no m array kind a b bs ys _ (and_right (eqb (length m) 238304) _ (and_left _ _ (lt-leb _ _ h))) w.same (ap (λ (z : List ℕ). z ++ drop 65536 ys) f.same ∙ take-append-drop 65536 ys)
