-- Bytes from a program, case by case.
use Rattle.std.proofs.Common.{◌≡◌, ℕ, ◌+◌, ◌*◌, ◌<◌, Bool, true, false, eqb, List, [], ◌∷◌, ◌++◌, length, drop, Some, None, sym, refl, ap, ◌∙◌, subst, arith}
use Rattle.std.proofs.lemmas.List.{nil_from_length}
use Rattle.std.proofs.lemmas.Bool.{eq-eqb}
use Rattle.meaning.specs.Words.{pick, none_of}
use Rattle.meaning.specs.Screen.{Term, with_answer}
use Rattle.meaning.specs.Bytes.{written}
use Rattle.meaning.specs.Panes.{Glass, with_panes, from, send, turn, turn_of, on_bytes, told}
use Rattle.meaning.specs.Promise.{detaching, says}
use Rattle.meaning.specs.Entry.{ActTold, SaysTold}
use Rattle.meaning.specs.declared.answer.Told.{Told}
use Rattle.meaning.specs.declared.answer.Told.TheVariants.{Send}
use Rattle.grid.specs.Cells.{rows_of, cells_of}
use Rattle.grid.proofs.Codes.{cells_of_rows}
use Rattle.terminal.specs.Terms.{term_on}
use Rattle.terminal.specs.declared.state.Terminal.{Terminal}
use Rattle.engine.specs.Areas.{part}
use Rattle.engine.specs.State.{View, State, Out, state, out, looks, drawing, closing, going, said_or_going, view_at}
use Rattle.engine.specs.Memory.{memory_size, screen_at, cells_at, encode}
use Rattle.engine.proofs.Areas.{part_over, part_over_below}
use Rattle.engine.proofs.Maps.{placed}
use Rattle.engine.proofs.Rewrites.{encode_cells}
use Rattle.machine.specs.States.{terminal_in, glass_of, view_of}
use Rattle.machine.specs.declared.state.Held.{Held}
use Rattle.machine.specs.declared.state.Machine.{Machine}
use Rattle.live.specs.Answered.{Answered}
use Rattle.turns.specs.Does.{Does}
use Rattle.turns.specs.Turned.{then_goes}
use Rattle.live.specs.Turned.{turned}
use Rattle.turns.proofs.Lent.{few_cells}

-- a glass whose one pane has this number and this terminal
abbrev pub with_terminal : Glass → ℕ → Term → Glass
with_terminal g i t = with_panes g (record { id = i; term = t } ∷ [])

-- the machine x with this terminal in its pane, which has the number i
pub record Retermed (x : Machine) (i : ℕ) (t : Terminal) (y : Machine) : Type 0 where
  pub glass : (m : List ℕ) → glass_of y m ≡ with_terminal (glass_of x m) i (terminal_in t m)
  pub view : (m : List ℕ) → view_of y m ≡ view_of x m

-- WHAT THE PLAIN GLASS DOES
-- the pane's terminal after the bytes, with its answer taken away
abbrev pub taken : Terminal → List ℕ → List ℕ → Term
taken t m bs = with_answer (written (terminal_in t m) bs) []

abbrev pub answer : Terminal → List ℕ → List ℕ → List ℕ
answer t m bs = (written (terminal_in t m) bs).answer

pub from_own : (x : Machine) (p : Held) (m bs : List ℕ) → x.pane ≡ Some p
    → turn detaching (glass_of x m) (from p.id bs) ≡ turn_of (with_terminal (glass_of x m) p.id (taken p.terminal m bs)) (told p.id (answer p.terminal m bs))
unfolding turn on_bytes
from_own x p m bs e = rw e (simp (eq-eqb p.id p.id refl))

pub from_other : (x : Machine) (p : Held) (m bs : List ℕ) (i : ℕ) → x.pane ≡ Some p → eqb p.id i ≡ false → turn detaching (glass_of x m) (from i bs) ≡ turn_of (glass_of x m) []
unfolding turn on_bytes
from_other x p m bs i e n = rw e (simp n)

pub from_nothing : (x : Machine) (m bs : List ℕ) (i : ℕ) → x.pane ≡ None → turn detaching (glass_of x m) (from i bs) ≡ turn_of (glass_of x m) []
unfolding turn on_bytes
from_nothing x m bs i e = rw e

pub bytes_pass : (x : Machine) (m m₁ ys ys₁ : List ℕ) (i : ℕ) (bs : List ℕ) (r : Told) → turn detaching (glass_of x m) (from i bs) ≡ turn_of (glass_of x m) []
    → Does (going (glass_of x m) (view_of x m)) m m₁ r ys ys₁ → Does (turned x m (from i bs)) m m₁ r ys ys₁
unfolding said_or_going view_at
bytes_pass x m m₁ ys ys₁ i bs r e d = subst (λ (o : Out). Does o m m₁ r ys ys₁) (ap (then_goes (view_of x m)) (sym e)) d

-- THE STATE AFTERWARDS
pub retermed : (x : Machine) (p : Held) (t : Terminal) → x.pane ≡ Some p → Retermed x p.id t (record x { pane = Some (record p { terminal = t }) })
retermed x p t e = record { glass = λ m. rw e; view = λ m. refl }

term_taken : (t t₁ : Terminal) (m m₁ bs ys ys₁ : List ℕ) (k : ℕ) → length m ≡ memory_size → Answered t m bs ys k t₁ m₁ ys₁ → terminal_in t₁ m₁ ≡ taken t m bs
term_taken t t₁ m m₁ bs ys ys₁ k l a =
    let z = placed in
    let n : t₁.size.high * t₁.size.wide ≡ length a.cells = ap (λ (h : ℕ). h * t₁.size.wide) a.high ∙ (ap (λ (w : ℕ). t.size.high * w) a.wide ∙ sym a.long) in
    let c : part m₁ cells_at (t₁.size.high * t₁.size.wide) ≡ a.cells =
    ap (λ (j : ℕ). part m₁ cells_at j) n ∙ (ap (λ (q : List ℕ). part q cells_at (length a.cells)) a.memory ∙ part_over m cells_at a.cells (omega arith)) in
    ap (λ (xs : List ℕ). term_on t₁ xs []) c ∙ ap (λ (u : Term). with_answer u []) a.term

pub glass_taken : (x y : Machine) (i : ℕ) (t t₁ : Terminal) (m m₁ bs ys ys₁ : List ℕ) (k : ℕ) → length m ≡ memory_size → Retermed x i t₁ y → Answered t m bs ys k t₁ m₁ ys₁
    → glass_of y m₁ ≡ with_terminal (glass_of x m) i (taken t m bs)
glass_taken x y i t t₁ m m₁ bs ys ys₁ k l q a = q.glass m₁ ∙ ap (with_terminal (glass_of x m) i) (term_taken t t₁ m m₁ bs ys ys₁ k l a)

-- the viewer's cells lie below the pane's
pub view_stays : (x y : Machine) (i : ℕ) (t t₁ : Terminal) (m m₁ bs ys ys₁ : List ℕ) (k : ℕ) → length m ≡ memory_size → Retermed x i t₁ y → Answered t m bs ys k t₁ m₁ ys₁
    → view_of y m₁ ≡ view_of x m
view_stays x y i t t₁ m m₁ bs ys ys₁ k l q a =
    let z = placed in
    let n = x.size.high * x.size.wide in
    let f = few_cells x.size in
    let c : part m₁ screen_at n ≡ part m screen_at n = ap (λ (u : List ℕ). part u screen_at n) a.memory ∙ part_over_below m cells_at a.cells screen_at n (omega arith) (omega arith) in
    q.view m₁ ∙ ap (λ (vs : List ℕ). record { wide = x.size.wide; high = x.size.high; cells = vs; pen = x.pen }) c

-- a state with the terminal as it is now is put into either memory alike
pub encode_taken : (g : Glass) (i : ℕ) (t t₁ : Terminal) (m m₁ bs ys ys₁ : List ℕ) (k : ℕ) (s : State) → length m ≡ memory_size → Answered t m bs ys k t₁ m₁ ys₁
    → s.glass ≡ with_terminal g i (taken t m bs) → encode m₁ s ≡ encode m s
encode_taken g i t t₁ m m₁ bs ys ys₁ k s l a e =
    let few = few_cells t.size in
    let lc = a.long in
    let n : length a.cells ≡ t₁.size.high * t₁.size.wide = a.long ∙ (ap (λ (w : ℕ). t.size.high * w) (sym a.wide) ∙ ap (λ (h : ℕ). h * t₁.size.wide) (sym a.high)) in
    let c : cells_of (rows_of t₁.size.wide t₁.size.high a.cells) ≡ a.cells = cells_of_rows t₁.size.wide t₁.size.high a.cells n in
    let r : cells_of (taken t m bs).rows ≡ a.cells = ap (λ (u : Term). cells_of u.rows) (sym a.term) ∙ c in
    ap (λ (u : List ℕ). encode u s) a.memory
    ∙ encode_cells m a.cells s (record { id = i; term = taken t m bs }) [] l (ap (λ (u : Glass). u.panes) e) (ap length r) (omega arith)

-- going on leaves the glass
pub going_keeps : (g : Glass) (v : View) → (going g v).state.glass ≡ g
unfolding going
going_keeps g v = kept (looks g) (none_of (drawing g v).bytes) (none_of (closing g v).bytes) _ _ _ _ refl refl refl refl
  where
    kept : (a b c : Bool) (o₁ o₂ o₃ o₄ : Out) → o₁.state.glass ≡ g → o₂.state.glass ≡ g → o₃.state.glass ≡ g → o₄.state.glass ≡ g
        → (pick a (pick b (pick c o₁ o₂) o₃) o₄).state.glass ≡ g
    kept true true true o₁ o₂ o₃ o₄ e₁ e₂ e₃ e₄ = e₁
    kept true true false o₁ o₂ o₃ o₄ e₁ e₂ e₃ e₄ = e₂
    kept true false c o₁ o₂ o₃ o₄ e₁ e₂ e₃ e₄ = e₃
    kept false b c o₁ o₂ o₃ o₄ e₁ e₂ e₃ e₄ = e₄

-- THE TURN
said : (g : Glass) (v : View) (i : ℕ) (bs : List ℕ) → 0 < length bs → out g v (says (send i bs)) ≡ said_or_going g v (told i bs)
unfolding said_or_going
said g v i [] h = absurd (omega arith)
said g v i (b ∷ bs) h = refl

unsaid : (g : Glass) (v : View) (i : ℕ) (bs : List ℕ) → length bs ≡ 0 → going g v ≡ said_or_going g v (told i bs)
unfolding said_or_going
unsaid g v i [] h = refl
unsaid g v i (b ∷ bs) h = absurd (omega arith)

-- there is an answer, and the machine was stored
pub bytes_answered : (x y : Machine) (p : Held) (t₁ : Terminal) (m m₁ m₂ bs ys ys₁ : List ℕ) (k : ℕ) → length m ≡ 238304 → x.pane ≡ Some p → Retermed x p.id t₁ y
    → Answered p.terminal m bs ys k t₁ m₁ ys₁ → 0 < k → m₂ ≡ encode m₁ (state (glass_of y m₁) (view_of y m₁))
    → Does (turned x m (from p.id bs)) m m₂ (Send (65536 * p.id + k)) ys ys₁
unfolding view_at ActTold SaysTold
bytes_answered x y p t₁ m m₁ m₂ bs ys ys₁ k l e q a h d =
    let lm : length m ≡ memory_size = l ∙ sym placed.size in
    let i = p.id in
    let t = p.terminal in
    let g = with_terminal (glass_of x m) i (taken t m bs) in
    let v = view_of x m in
    let c = a.count in
    let s : m₂ ≡ encode m (state g v) =
    d ∙ (ap (λ (u : Glass). encode m₁ (state u (view_of y m₁))) (glass_taken x y i t t₁ m m₁ bs ys ys₁ k lm q a)
    ∙ (ap (λ (u : View). encode m₁ (state g u)) (view_stays x y i t t₁ m m₁ bs ys ys₁ k lm q a)
    ∙ encode_taken (glass_of x m) i t t₁ m m₁ bs ys ys₁ k (state g v) lm a refl)) in
    subst (λ (o : Out). Does o m m₂ (Send (65536 * i + k)) ys ys₁) (said g v i (answer t m bs) (omega arith) ∙ ap (then_goes v) (sym (from_own x p m bs e)))
    (record { memory = s; act = (ap (λ (j : ℕ). Send (65536 * i + j)) c, a.so) })

-- there is none, and the machine went on
pub bytes_go : (x y : Machine) (p : Held) (t₁ : Terminal) (m m₁ m₂ bs ys ys₁ ys₂ : List ℕ) (k : ℕ) (r : Told) → length m ≡ 238304 → x.pane ≡ Some p → Retermed x p.id t₁ y
    → Answered p.terminal m bs ys k t₁ m₁ ys₁ → k ≡ 0 → Does (going (glass_of y m₁) (view_of y m₁)) m₁ m₂ r ys₁ ys₂
    → Does (turned x m (from p.id bs)) m m₂ r ys ys₂
unfolding view_at
bytes_go x y p t₁ m m₁ m₂ bs ys ys₁ ys₂ k r l e q a h d₀ =
    let lm : length m ≡ memory_size = l ∙ sym placed.size in
    let i = p.id in
    let t = p.terminal in
    let g = with_terminal (glass_of x m) i (taken t m bs) in
    let v = view_of x m in
    let c = a.count in
    let z : length (answer t m bs) ≡ 0 = omega arith in
    let w : ys₁ ≡ ys = a.so ∙ ap (λ (us : List ℕ). us ++ drop (length us) ys) (nil_from_length (answer t m bs) z) in
    let d₁ = subst (λ (u : Glass). Does (going u (view_of y m₁)) m₁ m₂ r ys₁ ys₂) (glass_taken x y i t t₁ m m₁ bs ys ys₁ k lm q a) d₀ in
    let d₂ = subst (λ (u : View). Does (going g u) m₁ m₂ r ys₁ ys₂) (view_stays x y i t t₁ m m₁ bs ys ys₁ k lm q a) d₁ in
    let d = subst (λ (us : List ℕ). Does (going g v) m₁ m₂ r us ys₂) w d₂ in
    subst (λ (o : Out). Does o m m₂ r ys ys₂) (unsaid g v i (answer t m bs) z ∙ ap (then_goes v) (sym (from_own x p m bs e)))
    (record { memory = d.memory ∙ encode_taken (glass_of x m) i t t₁ m m₁ bs ys ys₁ k (going g v).state lm a (going_keeps g v); act = d.act })
