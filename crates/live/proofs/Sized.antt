-- Another size: the pane's cells in memory, and the viewer's, written anew.
use Rattle.std.proofs.Common.{◌≡◌, ℕ, ◌+◌, ◌-◌, ◌*◌, ◌≤◌, Bool, true, List, [], ◌∷◌, ◌++◌, length, take, drop, Some, Option, sym, refl, ap, ◌∙◌, arith, length-drop, length-take}
use borrow.Rule.Slice.PartMut.{put_mid}
use Rattle.std.proofs.lemmas.List.{take_at}
use Rattle.std.proofs.lemmas.Bool.{and_from, eq-eqb}
use Rattle.meaning.specs.Screen.{fitted}
use Rattle.meaning.specs.Panes.{Pane, with_panes}
use Rattle.grid.specs.Cells.{rows_of, cells_of}
use Rattle.grid.proofs.Codes.{cells_of_rows}
use Rattle.grid.specs.declared.size.Size.{Size}
use Rattle.terminal.specs.Terms.{term_on}
use Rattle.terminal.specs.Sizes.{Resized}
use Rattle.terminal.specs.declared.state.Terminal.{Terminal}
use Rattle.engine.specs.Areas.{part, over}
use Rattle.engine.specs.State.{State, state}
use Rattle.engine.specs.Memory.{memory_size, screen_at, cells_at, encode}
use Rattle.engine.proofs.Areas.{length_over, part_over}
use Rattle.engine.proofs.Maps.{placed}
use Rattle.engine.proofs.Rewrites.{encode_cells}
use Rattle.machine.specs.States.{panes_of, glass_of, with_next, view_of}
use Rattle.machine.specs.declared.state.Held.{Held}
use Rattle.machine.specs.declared.state.Machine.{Machine}
use Rattle.machine.proofs.Stays.{lent_over, length_part}
use Rattle.live.specs.Fits.{Fitted}
use Rattle.turns.proofs.Lent.{few_cells}
use Rattle.turns.proofs.Viewing.{after_cells_next}

-- what was lent to the terminal for its new size is in the memory
pub fit_done : (t : Terminal) (m old new : List ℕ) (s : Size) (n : ℕ) (r : Bool) (t₁ : Terminal) (new₁ : List ℕ) → length m ≡ 238304 → n ≡ s.high * s.wide
    → old ≡ part m 38304 (t.size.high * t.size.wide) → length new ≡ n → length new₁ ≡ n → Resized t old s.wide s.high new r t₁ new₁
    → Fitted t m s.wide s.high t₁ (put_mid 38304 ((38304 + n) - 38304) m new₁)
fit_done t m old new s n r t₁ new₁ l e o ln ln₁ z =
    let f = few_cells t.size in
    let lo : length old ≡ t.size.high * t.size.wide = ap length o ∙ length_part m 38304 (t.size.high * t.size.wide) (omega arith) in
    let q : r ≡ true = z.told ∙ and_from _ _ (eq-eqb _ _ lo) (eq-eqb _ _ (ln ∙ e)) in
    record {
      cells = new₁;
      memory = lent_over m 38304 ((38304 + n) - 38304) new₁ (omega arith);
      long = ln₁ ∙ e;
      wide = (z.size q).0;
      high = (z.size q).1;
      done = λ a. z.done q a ∙ ap (λ (xs : List ℕ). fitted (term_on t xs a) s.wide s.high) o;
    }

-- the old cells, copied to the beginning of a row
pub copied_cells : (m cs rest : List ℕ) (n k : ℕ) → length m ≡ 238304 → k ≡ n → n ≤ 12000 → cs ≡ take ((38304 + k) - 38304) (drop 38304 m) → take (k - 0) (cs ++ rest) ≡ part m 38304 n
copied_cells m cs rest n k l e h q =
    let a : (38304 + k) - 38304 ≡ n = omega arith in
    let b : cs ≡ part m 38304 n = q ∙ ap (λ (j : ℕ). take j (drop 38304 m)) a in
    take_at cs rest (k - 0) (ap length b ∙ (length_part m 38304 n (omega arith) ∙ omega arith)) ∙ b

pub lent_long : (m : List ℕ) (s : Size) (n : ℕ) → length m ≡ 238304 → n ≡ s.high * s.wide → length (take ((38304 + n) - 38304) (drop 38304 m)) ≡ n
lent_long m s n l e = let f = few_cells s in length-take ((38304 + n) - 38304) (drop 38304 m) ∙ (let d = length-drop 38304 m in omega arith)

-- the pane's cells written anew
panes_anew : (m cs : List ℕ) (o : Option Held) (p : Held) → length m ≡ memory_size → o ≡ Some p → length cs ≡ p.terminal.size.high * p.terminal.size.wide
    → panes_of o (over m cells_at cs) ≡ record { id = p.id; term = term_on p.terminal cs [] } ∷ []
panes_anew m cs o p l e n =
    let k = placed in
    let c : part (over m cells_at cs) cells_at (p.terminal.size.high * p.terminal.size.wide) ≡ cs =
    ap (λ (j : ℕ). part (over m cells_at cs) cells_at j) (sym n) ∙ part_over m cells_at cs (omega arith) in
    ap (λ (z : Option Held). panes_of z (over m cells_at cs)) e ∙ ap (λ (xs : List ℕ). record { id = p.id; term = term_on p.terminal xs [] } ∷ []) c

-- the state of x with j as the next pane's number, and with these cells in its pane p and on the viewer's screen
abbrev pub anew : Machine → ℕ → Held → List ℕ → List ℕ → List ℕ → State
anew x j p m cs vs = state (with_panes (with_next (glass_of x m) j) (record { id = p.id; term = term_on p.terminal cs [] } ∷ [])) (record { wide = x.size.wide; high = x.size.high; cells = vs; pen = x.pen })

-- stored after both were written anew, the machine is as the definition puts it into the memory as it was
pub after_both : (m cs vs : List ℕ) (x : Machine) (j : ℕ) (p : Held) → length m ≡ memory_size → x.pane ≡ Some p → length cs ≡ p.terminal.size.high * p.terminal.size.wide
    → length vs ≡ x.size.high * x.size.wide
    → encode (over (over m cells_at cs) screen_at vs) (state (with_next (glass_of x (over (over m cells_at cs) screen_at vs)) j) (view_of x (over (over m cells_at cs) screen_at vs)))
    ≡ encode m (anew x j p m cs vs)
after_both m cs vs x j p l e n q =
    let k = placed in
    let f = few_cells p.terminal.size in
    let s = p.terminal.size in
    let lo : length (over m cells_at cs) ≡ memory_size = length_over m cells_at cs (omega arith) ∙ l in
    let c : cells_of (rows_of s.wide s.high cs) ≡ cs = cells_of_rows s.wide s.high cs n in
    after_cells_next (over m cells_at cs) vs x j lo q
    ∙ (ap (λ (ps : List Pane). encode (over m cells_at cs) (state (with_panes (with_next (glass_of x m) j) ps) (record { wide = x.size.wide; high = x.size.high; cells = vs; pen = x.pen }))) (panes_anew m cs x.pane p l e n)
    ∙ encode_cells m cs (anew x j p m cs vs) (record { id = p.id; term = term_on p.terminal cs [] }) [] l refl (ap length c) (omega arith))
