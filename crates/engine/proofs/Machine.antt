-- The main promise for every list of things that come, from a few facts about states: what the writer needs of a glass that is looked at, what each turn keeps,
-- and that a state put into memory is found there again.
use Rattle.std.proofs.Common.{◌≡◌, ℕ, zero, suc, ◌+◌, ◌*◌, ◌^◌, ◌<◌, ◌≤◌, Bool, true, false, not, ◌&&◌, ltb, ◌⊎◌, List, [], ◌∷◌, length, sym, refl, ap, ◌∙◌, subst, inl, inr, arith}
use Rattle.std.proofs.lemmas.Bool.{and_parts, and_from, and_left, not-true, cases_Bool, le-leb, cond-true, cond-false}
use Rattle.meaning.specs.Words.{every, none_of}
use Rattle.meaning.specs.Screen.{Cell, Term, fresh}
use Rattle.meaning.specs.Bytes.{written}
use Rattle.meaning.specs.Panes.{Glass, Event, key, from, gone, attach, Says, turn}
use Rattle.meaning.specs.Picture.{picture, spot, differs}
use Rattle.meaning.specs.Promise.{Engine, ToldIt, comes, next, Ran, a_row, screen_at, Shows, is_over, Right, proper_event}
use Rattle.meaning.specs.Leaving.{glass_after, nobody_looks, Through, Any, Silent, Seen}
use Rattle.grid.specs.Cells.{rows_of, cells_of}
use Rattle.render_law.specs.Law.{Draws, Closes, Fits, differing, all_fine}
use Rattle.render_law.proofs.Law.{writer_law}
use Rattle.engine.specs.State.{View, State, Out, screen_of, state, go_room, drawing, closing, after_drawing, after_closing, looks, going, view_at, said_or_going, proper_told, kept, machine_by}
use Rattle.engine.proofs.Runs.{Comes, comes_wait, comes_says, comes_write, comes_weaker}

-- what the writer needs of a glass that is looked at
pub record Pictured (g : Glass) : Type 0 where
  pub some_wide : 0 < g.wide
  pub wide : g.wide ≤ 200
  pub high : g.high ≤ 60
  pub long : length (cells_of (picture g)) ≡ g.high * g.wide
  pub fine : all_fine (cells_of (picture g)) ≡ true
  pub small : every (λ x. ltb x (2 ^ 64)) (cells_of (picture g)) ≡ true
  pub back : rows_of g.wide g.high (cells_of (picture g)) ≡ picture g
  pub inside : (spot g).shown ≡ true → ((spot g).row < g.high) × ((spot g).col < g.wide)

-- a view of a glass: as large, with all its cells, and numbers that memory can keep
pub record Viewed (g : Glass) (v : View) : Type 0 where
  pub is_wide : v.wide ≡ g.wide
  pub is_high : v.high ≡ g.high
  pub long : length v.cells ≡ g.high * g.wide
  pub small : every (λ x. ltb x (2 ^ 64)) v.cells ≡ true
  pub pen : Fits g.wide g.high v.pen

pub wrong : Glass → View → ℕ
wrong g v = differing v.cells (cells_of (picture g))

-- the view of a glass has the glass's size
sized_view : (g : Glass) (v : View) → Viewed g v → v ≡ record { wide = g.wide; high = g.high; cells = v.cells; pen = v.pen }
sized_view g v o = let e = o.is_wide in let f = o.is_high in rw (e, f)

draws : (g : Glass) (v : View) → Pictured g → Viewed g v → Draws v.wide v.high go_room (cells_of (picture g)) v.cells v.pen (drawing g v)
draws g v p o =
    let e = o.is_wide in let f = o.is_high in
    writer_law.draws v.wide v.high go_room (cells_of (picture g)) v.cells v.pen (rw e p.some_wide) (rw e p.wide) (rw f p.high) (rw (e, f) o.long) (rw (e, f) p.long) p.fine

drawn_viewed : (g : Glass) (v : View) → Pictured g → Viewed g v → Viewed g (after_drawing v (drawing g v))
drawn_viewed g v p o =
    let e = o.is_wide in let f = o.is_high in
    let k = writer_law.keeps v.wide v.high go_room (cells_of (picture g)) v.cells v.pen in
    record {
      is_wide = e;
      is_high = f;
      long = k.long ∙ o.long;
      small = k.cells (λ x. ltb x (2 ^ 64)) refl o.small p.small;
      pen = subst (λ (n : ℕ). Fits n g.high (drawing g v).pen) e (subst (λ (n : ℕ). Fits v.wide n (drawing g v).pen) f (k.fits (rw (e, f) o.pen) p.small));
    }

closes : (g : Glass) (v : View) → Pictured g → Viewed g v → Closes v.wide v.high (spot g).row (spot g).col (spot g).shown v.cells v.pen (closing g v)
closes g v p o =
    let e = o.is_wide in let f = o.is_high in
    writer_law.closes v.wide v.high (spot g).row (spot g).col (spot g).shown go_room v.cells v.pen (rw e p.wide) (rw f p.high) (omega arith) (rw (e, f) p.inside)

closed_viewed : (g : Glass) (v : View) → Viewed g v → Viewed g (after_closing v (closing g v))
closed_viewed g v o =
    let e = o.is_wide in let f = o.is_high in
    let k = writer_law.close_fits v.wide v.high (spot g).row (spot g).col (spot g).shown go_room v.pen (rw (e, f) o.pen) in
    record {
      is_wide = e;
      is_high = f;
      long = o.long;
      small = o.small;
      pen = subst (λ (n : ℕ). Fits n g.high (closing g v).pen) e (subst (λ (n : ℕ). Fits v.wide n (closing g v).pen) f k);
    }

-- bytes that are none, or some
nil_none : (bs : List ℕ) → none_of bs ≡ true → bs ≡ []
nil_none [] e = refl
nil_none (b ∷ bs) e = absurd (let z : ◌≡◌ {A = ℕ} 0 1 = cc in omega arith)

none_nil : (bs : List ℕ) → bs ≡ [] → none_of bs ≡ true
none_nil bs e = rw e

none_some : (bs : List ℕ) → 0 < length bs → none_of bs ≡ false
none_some [] h = absurd (omega arith)
none_some (b ∷ bs) h = refl

-- the bytes of a go fit a row
drawn_row : (g : Glass) (v : View) → Pictured g → Viewed g v → a_row (drawing g v).bytes ≡ true
drawn_row g v p o = let d = draws g v p o in and_from _ _ (le-leb _ 4096 d.within) d.bytes

closed_row : (g : Glass) (v : View) → Pictured g → Viewed g v → a_row (closing g v).bytes ≡ true
closed_row g v p o = let d = closes g v p o in and_from _ _ (le-leb _ 4096 (let k = d.few in omega arith)) d.bytes

-- rows that differ in as many cells as the flat numbers do
wrong_rows : (g : Glass) (v : View) → Pictured g → Viewed g v → differs (screen_of v).rows (picture g) ≡ wrong g v
unfolding wrong
wrong_rows g v p o =
    let e = o.is_wide in let f = o.is_high in
    ap (λ rs. differs (screen_of v).rows rs) (sym p.back)
    ∙ (rw (e, f) (writer_law.flat g.wide g.high v.cells (cells_of (picture g)) o.long p.long))

-- nothing to draw and nothing to close: the screen shows the picture
rest_shows : (g : Glass) (v : View) → Pictured g → Viewed g v → wrong g v ≡ 0 → (closing g v).bytes ≡ [] → Shows g (screen_of v)
unfolding Shows wrong written
rest_shows g v p o w c =
    let e = o.is_wide in let f = o.is_high in
    let k = closes g v p o in
    let q : screen_of v ≡ screen_of (after_closing v (closing g v)) = ap (λ bs. written (screen_of v) bs) (sym c) ∙ k.goes in (
      rw (e, f) (ap (rows_of g.wide g.high) (writer_law.same v.cells (cells_of (picture g)) (o.long ∙ sym p.long) w) ∙ p.back),
      ap (λ (t : Term). t.shown) q ∙ k.seen,
      λ s. (ap (λ (t : Term). t.row) q ∙ (k.place s).0, ap (λ (t : Term). t.col) q ∙ (k.place s).1),
    )

-- after the closing go there is nothing more to close
closed_still : (g : Glass) (v : View) → Pictured g → Viewed g v → (closing g (after_closing v (closing g v))).bytes ≡ []
closed_still g v p o =
    let k = closes g v p o in
    let u = after_closing v (closing g v) in
    ap (λ f. f.bytes) ((closes g u p (closed_viewed g v o)).still k.seen k.place)

-- and nothing is drawn where nothing differs
drawn_still : (g : Glass) (v : View) → Pictured g → Viewed g v → wrong g v ≡ 0 → none_of (drawing g v).bytes ≡ true
unfolding wrong
drawn_still g v p o w = none_nil _ (ap (λ d. d.bytes) ((draws g v p o).still w))

module _ (steps : State → ToldIt → Out) (begin : List ℕ) (fits : List ℕ → Bool) (decode : List ℕ → State) (encode : List ℕ → State → List ℕ)
    (Good : ℕ → Glass → Type 0) (Room : List ℕ → Type 0)
    (pictured : (n : ℕ) (g : Glass) → Good n g → looks g ≡ true → Pictured g)
    (room : (n : ℕ) (m : List ℕ) (g : Glass) (v : View) → Room m → Good n g → Viewed g v → Room (encode m (state g v)))
    (fit : (n : ℕ) (m : List ℕ) (g : Glass) (v : View) → Room m → Good n g → Viewed g v → fits (encode m (state g v)) ≡ true)
    (back : (n : ℕ) (m : List ℕ) (g : Glass) (v : View) → Room m → Good n g → Viewed g v → decode (encode m (state g v)) ≡ state g v)
    (next_is : (n : ℕ) (g : Glass) (v : View) → Good n g → steps (state g v) next ≡ going g v) where
  abbrev pub engine : Engine
  engine = machine_by steps begin fits decode encode

  -- the memory holds a state
  pub record Holds (n : ℕ) (m : List ℕ) (g : Glass) (v : View) : Type 0 where
    pub does_fit : fits m ≡ true
    pub is : decode m ≡ state g v
    pub has_room : Room m
    pub good : Good n g
    pub viewed : Viewed g v

  holds_encode : (n : ℕ) (m : List ℕ) (g : Glass) (v : View) → Room m → Good n g → Viewed g v → Holds n (encode m (state g v)) g v
  holds_encode n m g v r o w = record { does_fit = fit n m g v r o w; is = back n m g v r o w; has_room = room n m g v r o w; good = o; viewed = w }

  pub step_is : (n : ℕ) (m : List ℕ) (g : Glass) (v : View) (told : ToldIt) → Holds n m g v → proper_told told ≡ true → engine.step m told ≡ kept encode m (steps (state g v) told)
  unfolding machine_by
  step_is n m g v told h p = cond-true (fits m && proper_told told) _ _ (and_from _ _ h.does_fit p) ∙ ap (λ (s : State). kept encode m (steps s told)) h.is

  step_next : (n : ℕ) (m : List ℕ) (g : Glass) (v : View) → Holds n m g v → engine.step m next ≡ kept encode m (going g v)
  unfolding proper_told
  step_next n m g v h = step_is n m g v next h refl ∙ ap (kept encode m) (next_is n g v h.good)

  -- how a run that shows the picture ends
  pub record Shown (n : ℕ) (g : Glass) (ss : List Says) (most : ℕ) (r : Ran) : Type 0 where
    pub view : View
    pub screen : r.screen ≡ screen_of view
    pub holds : Holds n r.memory g view
    pub said : r.said ≡ ss
    pub bytes : r.bytes ≤ most
    pub shows : Shows g r.screen

  -- all cells and the cursor right
  rests : (n : ℕ) (m : List ℕ) (told : ToldIt) (g : Glass) (v : View) (ss : List Says) (b most : ℕ) → engine.step m told ≡ kept encode m (going g v) → Room m → Good n g → Viewed g v
      → looks g ≡ true → wrong g v ≡ 0 → (closing g v).bytes ≡ [] → b ≤ most → Comes engine true m told (screen_of v) ss b (Shown n g ss most)
  unfolding going
  rests n m told g v ss b most e r o w l d c q =
      let p = pictured n g o l in
      comes_wait engine true (Shown n g ss most) m told (screen_of v) ss b (encode m (state g v))
      (e ∙ ap (kept encode m) (cond-true (looks g) _ _ l ∙ (cond-true (none_of (drawing g v).bytes) _ _ (drawn_still g v p w d) ∙ cond-true (none_of (closing g v).bytes) _ _ (none_nil _ c))))
      (record { view = v; screen = refl; holds = holds_encode n m g v r o w; said = refl; bytes = q; shows = rest_shows g v p w d c })

  -- all cells right
  turns : (n : ℕ) (m : List ℕ) (told : ToldIt) (g : Glass) (v : View) (ss : List Says) (b most : ℕ) → engine.step m told ≡ kept encode m (going g v) → Room m → Good n g → Viewed g v
      → looks g ≡ true → wrong g v ≡ 0 → b + 64 ≤ most → Comes engine true m told (screen_of v) ss b (Shown n g ss most)
  unfolding going wrong
  turns n m told g v ss b most e r o w l d q = go (cases_Bool (none_of (closing g v).bytes))
    where
      go : (none_of (closing g v).bytes ≡ true) ⊎ (none_of (closing g v).bytes ≡ false) → Comes engine true m told (screen_of v) ss b (Shown n g ss most)
      go (inl c) = rests n m told g v ss b most e r o w l d (nil_none _ c) (omega arith)
      go (inr c) =
          let p = pictured n g o l in
          let u = after_closing v (closing g v) in
          let k = closes g v p w in
          let x = closed_viewed g v w in
          let few = k.few in
          comes_write engine true (Shown n g ss most) m told (screen_of v) ss b (encode m (state g u)) (closing g v).bytes
          (e ∙ ap (kept encode m) (cond-true (looks g) _ _ l ∙ (cond-true (none_of (drawing g v).bytes) _ _ (drawn_still g v p w d) ∙ cond-false (none_of (closing g v).bytes) _ _ c)))
          refl (closed_row g v p w)
          (subst (λ (t : Term). Comes engine true (encode m (state g u)) next t ss (b + length (closing g v).bytes) (Shown n g ss most)) (sym k.goes)
          (rests n (encode m (state g u)) next g u ss (b + length (closing g v).bytes) most
          (step_next n _ g u (holds_encode n m g u r o x)) (room n m g u r o x) o x l d (closed_still g v p w) (omega arith)))

  -- however many cells are wrong
  shows_all : (n fuel : ℕ) (m : List ℕ) (told : ToldIt) (g : Glass) (v : View) (ss : List Says) (b most : ℕ) → engine.step m told ≡ kept encode m (going g v) → Room m → Good n g → Viewed g v
      → looks g ≡ true → wrong g v ≤ fuel → b + 64 + 32 * wrong g v ≤ most → Comes engine true m told (screen_of v) ss b (Shown n g ss most)
  unfolding going wrong
  shows_all n zero m told g v ss b most e r o w l d q = turns n m told g v ss b most e r o w l (omega arith) (omega arith)
  shows_all n (suc k) m told g v ss b most e r o w l d q =
      go (wrong g v) refl (λ m₁ u b₁. shows_all n k m₁ next g u ss b₁ most)
    where
      Later : Type 0
      Later = (m₁ : List ℕ) (u : View) (b₁ : ℕ) → engine.step m₁ next ≡ kept encode m₁ (going g u) → Room m₁ → Good n g → Viewed g u
          → looks g ≡ true → wrong g u ≤ k → b₁ + 64 + 32 * wrong g u ≤ most → Comes engine true m₁ next (screen_of u) ss b₁ (Shown n g ss most)

      go : (j : ℕ) → wrong g v ≡ j → Later → Comes engine true m told (screen_of v) ss b (Shown n g ss most)
      go zero z later = turns n m told g v ss b most e r o w l z (omega arith)
      go (suc j) z later =
          let p = pictured n g o l in
          let u = after_drawing v (drawing g v) in
          let x = drawn_viewed g v p w in
          let a = draws g v p w in
          let s = a.on (omega arith) (omega arith) in
          let f = a.few in
          comes_write engine true (Shown n g ss most) m told (screen_of v) ss b (encode m (state g u)) (drawing g v).bytes
          (e ∙ ap (kept encode m) (cond-true (looks g) _ _ l ∙ cond-false (none_of (drawing g v).bytes) _ _ (none_some _ s)))
          refl (drawn_row g v p w)
          (subst (λ (t : Term). Comes engine true (encode m (state g u)) next t ss (b + length (drawing g v).bytes) (Shown n g ss most)) (sym a.goes)
          (later (encode m (state g u)) u (b + length (drawing g v).bytes) (step_next n _ g u (holds_encode n m g u r o x)) (room n m g u r o x) o x l (omega arith) (omega arith)))

  -- how any run ends
  pub record After (n : ℕ) (g : Glass) (ss : List Says) (most : ℕ) (r : Ran) : Type 0 where
    pub view : View
    pub screen : r.screen ≡ screen_of view
    pub holds : Holds n r.memory g view
    pub said : r.said ≡ ss
    pub seen : looks g ≡ true → (r.bytes ≤ most) × Shows g r.screen
    pub unseen : looks g ≡ false → r.bytes ≡ 0

  as_after : (n : ℕ) (g : Glass) (ss : List Says) (most : ℕ) (r : Ran) → looks g ≡ true → Shown n g ss most r → After n g ss most r
  as_after n g ss most r l s =
      record {
        view = s.view;
        screen = s.screen;
        holds = s.holds;
        said = s.said;
        seen = λ _. (s.bytes, s.shows);
        unseen = λ f. absurd (let z : ◌≡◌ {A = ℕ} 0 1 = cc in omega arith);
      }

  -- going on, from anywhere
  pub goes_on : (n : ℕ) (m : List ℕ) (told : ToldIt) (g : Glass) (v : View) (ss : List Says) → engine.step m told ≡ kept encode m (going g v) → Room m → Good n g → Viewed g v
      → Comes engine g.attached m told (screen_of v) ss 0 (After n g ss (64 + 32 * wrong g v))
  unfolding going
  goes_on n m told g v ss e r o w = go (cases_Bool (looks g))
    where
      most : ℕ
      most = 64 + 32 * wrong g v

      go : (looks g ≡ true) ⊎ (looks g ≡ false) → Comes engine g.attached m told (screen_of v) ss 0 (After n g ss most)
      go (inl l) =
          subst (λ (x : Bool). Comes engine x m told (screen_of v) ss 0 (After n g ss most)) (sym (and_parts g.attached (not (none_of g.windows)) l).0)
          (comes_weaker engine true m told (screen_of v) ss 0 (Shown n g ss most) (After n g ss most) (λ x. as_after n g ss most x l)
          (shows_all n (wrong g v) m told g v ss 0 most e r o w l (omega arith) (omega arith)))
      go (inr l) =
          comes_wait engine g.attached (After n g ss most) m told (screen_of v) ss 0 (encode m (state g v))
          (e ∙ ap (kept encode m) (cond-false (looks g) _ _ l))
          (record {
            view = v;
            screen = refl;
            holds = holds_encode n m g v r o w;
            said = refl;
            seen = λ f. absurd (let z : ◌≡◌ {A = ℕ} 0 1 = cc in omega arith);
            unseen = λ _. refl;
          })

  -- a thing that comes: something said, or nothing
  comes_on : (n : ℕ) (m : List ℕ) (told : ToldIt) (g : Glass) (v : View) (ss : List Says) → engine.step m told ≡ kept encode m (said_or_going g v ss) → length ss ≤ 1 → Room m → Good n g → Viewed g v
      → Comes engine g.attached m told (screen_of v) [] 0 (After n g ss (64 + 32 * wrong g v))
  unfolding said_or_going
  comes_on n m told g v [] e s r o w = goes_on n m told g v [] e r o w
  comes_on n m told g v (x ∷ []) e s r o w =
      comes_says engine g.attached (After n g (x ∷ []) (64 + 32 * wrong g v)) m told (screen_of v) [] 0 (encode m (state g v)) x e
      (goes_on n (encode m (state g v)) next g v (x ∷ []) (step_next n _ g v (holds_encode n m g v r o w)) (room n m g v r o w) o w)
  comes_on n m told g v (x ∷ y ∷ ss) e s r o w = absurd (omega arith)

  pub screen_is : (ev : Event) (v : View) → screen_at ev (screen_of v) ≡ screen_of (view_at ev v)
  unfolding screen_at view_at
  screen_is (key c) v = refl
  screen_is (from i bs) v = refl
  screen_is (gone i) v = refl
  screen_is (attach w h) v = sym (writer_law.begins w h)

  -- what is shown of one thing that comes
  abbrev pub EventRuns : (ℕ → Bool) → Type 0
  EventRuns known = (n : ℕ) (m : List ℕ) (g : Glass) (v : View) (ev : Event) → proper_event ev ≡ true → Holds (suc n) m g v
      → Comes engine (turn known g ev).next.attached m (comes ev) (screen_at ev (screen_of v)) [] 0
      (After n (turn known g ev).next (turn known g ev).says (64 + 32 * wrong (turn known g ev).next (view_at ev v)))

  -- where each turn has one saying at most, and that comes first
  module _ (known : ℕ → Bool) (turn_good : (n : ℕ) (g : Glass) (ev : Event) → proper_event ev ≡ true → Good (suc n) g → Good n (turn known g ev).next)
      (turn_viewed : (n : ℕ) (g : Glass) (v : View) (ev : Event) → proper_event ev ≡ true → Good n g → Viewed g v → Viewed (turn known g ev).next (view_at ev v))
      (few_says : (n : ℕ) (g : Glass) (ev : Event) → Good n g → length (turn known g ev).says ≤ 1)
      (comes_is : (g : Glass) (v : View) (ev : Event) → steps (state g v) (comes ev) ≡ said_or_going (turn known g ev).next (view_at ev v) (turn known g ev).says) where
    pub one_saying : EventRuns known
    unfolding proper_told
    one_saying n m g v ev p h =
        rw (screen_is ev v)
        (comes_on n m (comes ev) (turn known g ev).next (view_at ev v) (turn known g ev).says
        (step_is (suc n) m g v (comes ev) h p ∙ ap (kept encode m) (comes_is g v ev))
        (few_says (suc n) g ev h.good) h.has_room (turn_good n g ev p h.good) (turn_viewed (suc n) g v ev p h.good h.viewed))

  module _ (known : ℕ → Bool) (turn_good : (n : ℕ) (g : Glass) (ev : Event) → proper_event ev ≡ true → Good (suc n) g → Good n (turn known g ev).next)
      (turn_viewed : (n : ℕ) (g : Glass) (v : View) (ev : Event) → proper_event ev ≡ true → Good n g → Viewed g v → Viewed (turn known g ev).next (view_at ev v))
      (event_runs : EventRuns known) where
    not_over : (g : Glass) → g.attached ≡ true → is_over g ≡ false → looks g ≡ true
    not_over g a b = rw (a, b)

    is_out : (g : Glass) → is_over g ≡ true → looks g ≡ false
    is_out g a = elim g.attached as (λ (x : Bool). (x && not (none_of g.windows)) ≡ false) [ true ↦ rw a | false ↦ refl ]

    pub all_right : (evs : List Event) (m : List ℕ) (g : Glass) (v : View) (t : Term) → t ≡ screen_of v → every proper_event evs ≡ true → Holds (length evs) m g v → Right known engine m g t evs
    unfolding Right
    all_right [] m g v t s p h = refl
    all_right (ev ∷ evs) m g v t s p h =
        let q = and_parts (proper_event ev) _ p in
        let c = event_runs (length evs) m g v ev q.0 h in
        let a = c.so in
        let g₁ = (turn known g ev).next in
        let u = view_at ev v in
        let w = turn_viewed (suc (length evs)) g v ev q.0 h.good h.viewed in
        rw s (
          c.fuel,
          c.ends,
          a.said,
          (λ k. let l = not_over g₁ k.0 k.1 in
              let z = a.seen l in
              let d : differs (screen_at ev (screen_of v)).rows (picture g₁) ≡ wrong g₁ u =
              ap (λ (x : Term). differs x.rows (picture g₁)) (screen_is ev v) ∙ wrong_rows g₁ u (pictured (length evs) g₁ (turn_good (length evs) g ev q.0 h.good) l) w in
              (z.1, rw d z.0)),
          (λ k. let z = a.unseen (is_out g₁ k) in omega arith),
          (λ _. all_right evs _ g₁ a.view _ a.screen q.1 a.holds),
        )

    -- whatever comes, the machine waits each time and holds what the plain glass is then
    pub all_through : (evs : List Event) (n k : ℕ) (m : List ℕ) (g : Glass) (v : View) (P : List ℕ → Glass → Term → Type 0) → every proper_event evs ≡ true → n ≡ length evs + k → Holds n m g v
        → ((m₁ : List ℕ) (v₁ : View) → Holds k m₁ (glass_after known g evs) v₁ → P m₁ (glass_after known g evs) (screen_of v₁)) → Through Any known engine m g (screen_of v) evs P
    unfolding Through glass_after
    all_through [] n k m g v P p e h q = q m v (subst (λ (j : ℕ). Holds j m g v) (omega arith) h)
    all_through (ev ∷ evs) n k m g v P p e h q =
        let s = and_parts (proper_event ev) _ p in
        let c = event_runs (length evs + k) m g v ev s.0 (subst (λ (j : ℕ). Holds j m g v) (omega arith) h) in
        let a = c.so in (
          c.fuel,
          c.ends,
          refl,
          rw a.screen (all_through evs (length evs + k) k _ (turn known g ev).next a.view P s.1 refl a.holds q),
        )

    -- while nobody looks nothing is sent
    pub all_silent : (evs : List Event) (n k : ℕ) (m : List ℕ) (g : Glass) (v : View) (P : List ℕ → Glass → Term → Type 0) → every proper_event evs ≡ true → nobody_looks known g evs ≡ true
        → n ≡ length evs + k → Holds n m g v
        → ((m₁ : List ℕ) (v₁ : View) → Holds k m₁ (glass_after known g evs) v₁ → P m₁ (glass_after known g evs) (screen_of v₁)) → Through Silent known engine m g (screen_of v) evs P
    unfolding Through glass_after nobody_looks
    all_silent [] n k m g v P p y e h q = q m v (subst (λ (j : ℕ). Holds j m g v) (omega arith) h)
    all_silent (ev ∷ evs) n k m g v P p y e h q =
        let s = and_parts (proper_event ev) _ p in
        let z = and_parts (not g.attached) _ y in
        let c = event_runs (length evs + k) m g v ev s.0 (subst (λ (j : ℕ). Holds j m g v) (omega arith) h) in
        let a = c.so in (
          c.fuel,
          c.ends,
          a.unseen (unlooked (turn known g ev).next evs z.1),
          rw a.screen (all_silent evs (length evs + k) k _ (turn known g ev).next a.view P s.1 z.1 refl a.holds q),
        )
      where
        unlooked : (g₁ : Glass) (es : List Event) → nobody_looks known g₁ es ≡ true → looks g₁ ≡ false
        unlooked g₁ [] e = and_left g₁.attached _ (not-true _ e)
        unlooked g₁ (e₁ ∷ es) e = and_left g₁.attached _ (not-true _ (and_parts (not g₁.attached) _ e).0)

    -- and whoever attaches sees the picture
    pub attach_seen : (n : ℕ) (m : List ℕ) (g : Glass) (v : View) (w h : ℕ) → proper_event (attach w h) ≡ true → Holds (suc n) m g v → looks (turn known g (attach w h)).next ≡ true
        → Seen known engine w h m g (screen_of v)
    unfolding Seen screen_at
    attach_seen n m g v w h p o l =
        let c = event_runs n m g v (attach w h) p o in
        let a = c.so in
        let g₁ = (turn known g (attach w h)).next in
        let u = view_at (attach w h) v in
        let x = turn_viewed (suc n) g v (attach w h) p o.good o.viewed in
        let z = a.seen l in
        let d : differs (screen_at (attach w h) (screen_of v)).rows (picture g₁) ≡ wrong g₁ u =
        ap (λ (y : Term). differs y.rows (picture g₁)) (screen_is (attach w h) v) ∙ wrong_rows g₁ u (pictured n g₁ (turn_good n g (attach w h) p o.good) l) x in
        (c.fuel, c.ends, z.1, attached_bytes (screen_at (attach w h) (screen_of v)).rows (fresh_at w h (screen_of v)) d z.0)
      where
        fresh_at : (w₁ h₁ : ℕ) (t : Term) → (screen_at (attach w₁ h₁) t).rows ≡ (fresh w₁ h₁).rows
        fresh_at w₁ h₁ t = refl

        attached_bytes : {b k : ℕ} (rs : List (List Cell)) → rs ≡ (fresh w h).rows → differs rs (picture (turn known g (attach w h)).next) ≡ k → b ≤ 64 + 32 * k
            → b ≤ 64 + 32 * differs (fresh w h).rows (picture (turn known g (attach w h)).next)
        attached_bytes {b} {k} rs e d q = subst (λ (zs : List (List Cell)). b ≤ 64 + 32 * differs zs (picture (turn known g (attach w h)).next)) e (subst (λ (j : ℕ). b ≤ 64 + 32 * j) (sym d) q)
