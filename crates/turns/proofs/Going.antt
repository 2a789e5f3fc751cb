-- Going on, case by case.
use Rattle.std.proofs.Common.{◌≡◌, ℕ, ◌<◌, Bool, true, false, List, [], ◌∷◌, ◌++◌, length, drop, Some, None, sym, refl, ap, ◌∙◌, subst, arith}
use Rattle.std.proofs.lemmas.List.{nil_from_length}
use Rattle.std.proofs.lemmas.Bool.{cond-true, cond-false, eq-eqb, and_right}
use Rattle.meaning.specs.Words.{none_of}
use Rattle.meaning.specs.Screen.{Cell}
use Rattle.meaning.specs.Panes.{Glass}
use Rattle.meaning.specs.Picture.{spot}
use Rattle.terminal.specs.Terms.{term_of}
use Rattle.meaning.specs.Promise.{write, wait}
use Rattle.meaning.specs.Entry.{ActTold}
use Rattle.meaning.specs.declared.answer.Told.TheVariants.{Write, Wait}
use Rattle.layout.specs.Window.{one_pane}
use Rattle.render.specs.declared.pen.Pen.{Pen}
use Rattle.engine.specs.State.{View, Out, state, out, drawing, closing, after_drawing, looks, going}
use Rattle.engine.specs.Memory.{memory_size, encode}
use Rattle.engine.proofs.Maps.{placed}
use Rattle.machine.specs.States.{terminal_in, glass_of, with_next, view_of, state_of, Stored, StoredWithNext}
use Rattle.machine.specs.declared.state.Held.{Held}
use Rattle.machine.specs.declared.state.Machine.{Machine}
use Rattle.turns.specs.Sent.{Closed, closing_at}
use Rattle.turns.specs.Does.{Does, closing_out}

-- a machine with a pane that is looked at
pub glass_is : (x : Machine) (p : Held) (m : List ℕ) → x.pane ≡ Some p → x.attached ≡ true
    → one_pane x.size.wide x.size.high p.id (terminal_in p.terminal m) x.next x.prefix ≡ glass_of x m
glass_is x p m e a = rw (e, a)

none_some : (bs : List ℕ) → 0 < length bs → none_of bs ≡ false
none_some [] h = absurd (omega arith)
none_some (b ∷ bs) h = refl

none_nil : (bs : List ℕ) → length bs ≡ 0 → none_of bs ≡ true
none_nil bs e = rw (nil_from_length bs e)

pub going_draws : (g : Glass) (v : View) → looks g ≡ true → 0 < length (drawing g v).bytes → out g (after_drawing v (drawing g v)) (write (drawing g v).bytes) ≡ going g v
unfolding going
going_draws g v l h = sym (cond-true (looks g) _ _ l ∙ cond-false (none_of (drawing g v).bytes) _ _ (none_some _ h))

pub going_closes : (g : Glass) (v : View) → looks g ≡ true → length (drawing g v).bytes ≡ 0 → closing_out g v ≡ going g v
unfolding going
going_closes g v l h = sym (cond-true (looks g) _ _ l ∙ cond-true (none_of (drawing g v).bytes) _ _ (none_nil _ h))

pub going_rests : (g : Glass) (v : View) → looks g ≡ false → out g v wait ≡ going g v
unfolding going
going_rests g v l = sym (cond-false (looks g) _ _ l)

-- the closing go sent something, or nothing
pub close_writes : (g : Glass) (v : View) (m m₁ ys ys₁ : List ℕ) (pen : Pen) (k : ℕ) → Closed (closing g v) pen k ys ys₁ → 0 < k
    → m₁ ≡ encode m (state g (record { wide = v.wide; high = v.high; cells = v.cells; pen = pen })) → Does (closing_out g v) m m₁ (Write k) ys ys₁
unfolding ActTold
close_writes g v m m₁ ys ys₁ pen k c h e =
    let n = c.count in
    subst (λ (o : Out). Does o m m₁ (Write k) ys ys₁) (sym (cond-false (none_of (closing g v).bytes) _ _ (none_some _ (omega arith))))
    (record { memory = e ∙ ap (λ (q : Pen). encode m (state g (record { wide = v.wide; high = v.high; cells = v.cells; pen = q }))) c.set_to; act = (ap Write c.count, c.so) })

pub close_waits : (g : Glass) (v : View) (m m₁ ys ys₁ : List ℕ) (pen : Pen) (k : ℕ) → Closed (closing g v) pen k ys ys₁ → k ≡ 0 → m₁ ≡ encode m (state g v)
    → Does (closing_out g v) m m₁ Wait ys ys₁
unfolding ActTold
close_waits g v m m₁ ys ys₁ pen k c h e =
    let z : length (closing g v).bytes ≡ 0 = (let n = c.count in omega arith) in
    let b : (closing g v).bytes ≡ [] = nil_from_length (closing g v).bytes z in
    subst (λ (o : Out). Does o m m₁ Wait ys ys₁) (sym (cond-true (none_of (closing g v).bytes) _ _ (none_nil _ z)))
    (record { memory = e; act = (refl, c.so ∙ ap (λ (bs : List ℕ). bs ++ drop (length bs) ys) b) })

pub close_is : (x : Machine) (p : Held) (m ys ys₁ : List ℕ) (pen : Pen) (k : ℕ) → x.pane ≡ Some p → x.attached ≡ true
    → ((rs : List (List Cell)) (a : List ℕ) (i n : ℕ) (q : Bool)
    → Closed (closing_at x.size.wide x.size.high (spot (one_pane x.size.wide x.size.high i (term_of p.terminal rs a) n q)) x.pen) pen k ys ys₁)
    → Closed (closing (glass_of x m) (view_of x m)) pen k ys ys₁
close_is x p m ys ys₁ pen k e a f =
    subst (λ (g : Glass). Closed (closing_at x.size.wide x.size.high (spot g) x.pen) pen k ys ys₁) (glass_is x p m e a)
    (f (terminal_in p.terminal m).rows [] p.id x.next x.prefix)

-- a machine that was stored
pub stored_done : (x : Machine) (m m₁ : List ℕ) (r : Bool) → Stored x m r m₁ → length m ≡ 238304 → m₁ ≡ encode m (state (glass_of x m) (view_of x m))
unfolding state_of
stored_done x m m₁ r s l = s.done (s.told ∙ eq-eqb (length m) memory_size (l ∙ sym placed.size))

-- and with n as the number that the next pane gets
pub stored_next_done : (x : Machine) (n : ℕ) (m m₁ : List ℕ) (r : Bool) → StoredWithNext x n m r m₁ → length m ≡ 238304 → m₁ ≡ encode m (state (with_next (glass_of x m) n) (view_of x m))
stored_next_done x n m m₁ r s l = s.done (s.told ∙ eq-eqb (length m) memory_size (l ∙ sym placed.size))

-- nothing to do
pub rest_does : (x : Machine) (m m₁ ys : List ℕ) → looks (glass_of x m) ≡ false → m₁ ≡ encode m (state (glass_of x m) (view_of x m)) → Does (going (glass_of x m) (view_of x m)) m m₁ Wait ys ys
unfolding ActTold
rest_does x m m₁ ys l e = subst (λ (o : Out). Does o m m₁ Wait ys ys) (going_rests (glass_of x m) (view_of x m) l) (record { memory = e; act = (refl, refl) })

pub nobody_looks : (x : Machine) (m : List ℕ) → x.attached ≡ false → looks (glass_of x m) ≡ false
nobody_looks x m e = rw e

pub nothing_there : (x : Machine) (m : List ℕ) → x.pane ≡ None → looks (glass_of x m) ≡ false
nothing_there x m e = rw e (and_right x.attached false refl)
