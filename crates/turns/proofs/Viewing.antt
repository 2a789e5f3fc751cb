-- The viewer's cells and pen changed where they stand, and the rest of the state as it was.
use Rattle.std.proofs.Common.{◌≡◌, ℕ, ◌*◌, ◌≤◌, List, [], ◌∷◌, length, drop, Some, None, Option, sym, refl, ap, ◌∙◌, arith, length-drop, length-take}
use Rattle.meaning.specs.Screen.{Term}
use Rattle.meaning.specs.Panes.{Pane}
use Rattle.grid.specs.Cells.{rows_of, cells_of}
use Rattle.grid.proofs.Codes.{cells_of_rows}
use Rattle.terminal.specs.Terms.{term_of}
use Rattle.render.specs.declared.pen.Pen.{Pen}
use Rattle.engine.specs.Areas.{part, over}
use Rattle.engine.specs.State.{State, state}
use Rattle.engine.specs.Memory.{memory_size, screen_at, cells_at, encode}
use Rattle.engine.proofs.Areas.{part_over, part_over_above}
use Rattle.engine.proofs.Maps.{placed}
use Rattle.engine.proofs.Rewrites.{encode_screen}
use Rattle.machine.specs.States.{terminal_in, panes_of, glass_of, with_next, view_of, state_of}
use Rattle.machine.specs.declared.state.Held.{Held}
use Rattle.machine.specs.declared.state.Machine.{Machine}
use Rattle.turns.proofs.Lent.{few_cells}

panes_stay : (m vs : List ℕ) (o : Option Held) → length m ≡ memory_size → length vs ≤ 12000 → panes_of o (over m screen_at vs) ≡ panes_of o m
panes_stay m vs None l h = refl
panes_stay m vs (Some p) l h =
    let k = placed in
    let t = p.terminal in
    let n = t.size.high * t.size.wide in
    let e : part (over m screen_at vs) cells_at n ≡ part m cells_at n = part_over_above m screen_at vs cells_at n (omega arith) (omega arith) in
    ap (λ (xs : List ℕ). record { id = p.id; term = term_of t (rows_of t.size.wide t.size.high xs) [] } ∷ []) e

pub length_pane : (m : List ℕ) (o : Option Held) → length m ≡ memory_size → (q : Pane) (qs : List Pane) → panes_of o m ≡ q ∷ qs → length (cells_of q.term.rows) ≤ 12000
length_pane m None l q qs e = absurd (let z : ◌≡◌ {A = ℕ} 0 1 = cc in omega arith)
length_pane m (Some p) l q qs e =
    let k = placed in
    let s = p.terminal.size in
    let f = few_cells s in
    let n = s.high * s.wide in
    let lp : length (part m cells_at n) ≡ n = length-take n (drop cells_at m) ∙ (let d = length-drop cells_at m in omega arith) in
    let c : cells_of (rows_of s.wide s.high (part m cells_at n)) ≡ part m cells_at n = cells_of_rows s.wide s.high (part m cells_at n) lp in
    let i : terminal_in p.terminal m ≡ q.term = ap (λ (ps : List Pane). (first ps).term) e in
    (let j = ap (λ (t : Term). length (cells_of t.rows)) i in let a = ap length c in omega arith)
  where
    first : List Pane → Pane
    first [] = q
    first (x ∷ xs) = x

-- the state of x, but with these cells and this pen on the viewer's screen
abbrev pub viewed_so : Machine → List ℕ → List ℕ → Pen → State
viewed_so x m vs pen = state (glass_of x m) (record { wide = x.size.wide; high = x.size.high; cells = vs; pen = pen })

-- and with n as the number that the next pane gets
abbrev pub viewed_next : Machine → ℕ → List ℕ → List ℕ → Pen → State
viewed_next x n m vs pen = state (with_next (glass_of x m) n) (record { wide = x.size.wide; high = x.size.high; cells = vs; pen = pen })

state_after : (m vs : List ℕ) (x : Machine) (n : ℕ) → length m ≡ memory_size → length vs ≡ x.size.high * x.size.wide
    → state (with_next (glass_of x (over m screen_at vs)) n) (view_of x (over m screen_at vs)) ≡ viewed_next x n m vs x.pen
state_after m vs x n l e =
    let k = placed in
    let f = few_cells x.size in
    let ps = panes_stay m vs x.pane l (omega arith) in
    let c : part (over m screen_at vs) screen_at (x.size.high * x.size.wide) ≡ vs = ap (λ (j : ℕ). part (over m screen_at vs) screen_at j) (sym e) ∙ part_over m screen_at vs (omega arith) in
    rw (ps, c)

-- stored after the cells were changed, the machine is as the definition puts it into the memory as it was
pub after_cells_next : (m vs : List ℕ) (x : Machine) (n : ℕ) → length m ≡ memory_size → length vs ≡ x.size.high * x.size.wide
    → encode (over m screen_at vs) (state (with_next (glass_of x (over m screen_at vs)) n) (view_of x (over m screen_at vs))) ≡ encode m (viewed_next x n m vs x.pen)
after_cells_next m vs x n l e =
    ap (encode (over m screen_at vs)) (state_after m vs x n l e)
    ∙ encode_screen m vs (viewed_next x n m vs x.pen) l (let f = few_cells x.size in omega arith) (omega arith) (length_pane m x.pane l)

pub after_cells : (m vs : List ℕ) (x : Machine) → length m ≡ memory_size → length vs ≡ x.size.high * x.size.wide
    → encode (over m screen_at vs) (state_of x (over m screen_at vs)) ≡ encode m (viewed_so x m vs x.pen)
unfolding state_of
after_cells m vs x l e = after_cells_next m vs x x.next l e
