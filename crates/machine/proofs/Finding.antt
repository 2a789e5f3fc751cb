-- What a memory holds, read area by area.
use Rattle.std.proofs.Common.{◌≡◌, ℕ, ◌*◌, ◌^◌, ◌<◌, Bool, true, false, not, ◌&&◌, eqb, ltb, leb, List, [], length, get_or, drop, Some, None, Option, sym, ap, ◌∙◌, subst, arith}
use Rattle.std.proofs.lemmas.List.{get_or-take}
use Rattle.std.proofs.lemmas.Bool.{and_left, and_right, and_from, or_left, or_right, not_from_false, eq-eqb, ne_eqb, lt-ltb}
use Rattle.meaning.specs.Words.{or}
use Rattle.meaning.specs.Screen.{Cell, Term}
use Rattle.meaning.specs.Panes.{at_first}
use Rattle.grid.specs.Cells.{rows_of}
use Rattle.terminal.specs.Terms.{term_of}
use Rattle.terminal.specs.declared.state.Terminal.{Terminal}
use Rattle.header.specs.Header.{yes, header_fits, term_from}
use Rattle.header.specs.Outcomes.{Loaded as HeaderLoads}
use Rattle.engine.specs.Areas.{part}
use Rattle.engine.specs.State.{state, fresh_view}
use Rattle.engine.specs.Memory.{memory_size, header_at, screen_at, cells_at, head_fits, memory_fits, windows_from, panes_from, terminal_from, pen_from, decode}
use Rattle.engine.proofs.Maps.{placed}
use Rattle.machine.specs.States.{terminal_in, windows_of, panes_of, state_of, used_fits, used, PaneIs, Holds}
use Rattle.machine.specs.declared.state.Held.{Held}
use Rattle.machine.specs.declared.state.Machine.{Machine}

-- a terminal with its cells
terminal_found : (hd m : List ℕ) (t : Terminal) → HeaderLoads hd t → terminal_from hd (drop cells_at m) ≡ terminal_in t m
unfolding term_from
terminal_found hd m t e =
    let w : t.size.wide ≡ get_or hd 0 0 = ap (λ (z : Term). z.wide) (e.same [] []) in
    let h : t.size.high ≡ get_or hd 1 0 = ap (λ (z : Term). z.high) (e.same [] []) in
    let rows : rows_of t.size.wide t.size.high (part m cells_at (t.size.high * t.size.wide)) ≡ rows_of (get_or hd 0 0) (get_or hd 1 0) (part m cells_at (get_or hd 1 0 * get_or hd 0 0)) =
    (λ i. rows_of (w i) (h i) (part m cells_at (h i * w i))) in
    sym (ap (λ (rs : List (List Cell)). term_of t rs []) rows ∙ e.same (rows_of (get_or hd 0 0) (get_or hd 1 0) (part m cells_at (get_or hd 1 0 * get_or hd 0 0))) [])

windows_found : (has i : ℕ) (hd : List ℕ) (o : Option Held) → PaneIs has i hd o → windows_from (yes has) i ≡ windows_of o
windows_found has i hd None e = ap (λ (b : Bool). windows_from b i) e
windows_found has i hd (Some p) e = ap (λ (b : Bool). windows_from b i) e.0 ∙ ap (windows_from true) (sym e.1)

panes_found : (has i : ℕ) (hd m : List ℕ) (o : Option Held) → PaneIs has i hd o → panes_from (yes has) i (terminal_from hd (drop cells_at m)) ≡ panes_of o m
panes_found has i hd m None e = ap (λ (b : Bool). panes_from b i (terminal_from hd (drop cells_at m))) e
panes_found has i hd m (Some p) e =
    ap (λ (b : Bool). panes_from b i (terminal_from hd (drop cells_at m))) e.0
    ∙ (ap (λ (k : ℕ). panes_from true k (terminal_from hd (drop cells_at m))) (sym e.1) ∙ ap (panes_from true p.id) (terminal_found hd m p.terminal e.2))

-- the pane's header stands at 256
at_header : (m : List ℕ) (has i : ℕ) (o : Option Held) → PaneIs has i (part m 256 64) o → PaneIs has i (part m header_at 64) o
at_header m has i o e = subst (λ (a : ℕ). PaneIs has i (part m a 64) o) (sym placed.header) e

-- x read from the head hd of the memory m, with the header of its pane at 256
pub record Read (hd m : List ℕ) (x : Machine) : Type 0 where
  pub sized : (ltb 0 (get_or hd 1 0) && (leb (get_or hd 1 0) 200 && (ltb 0 (get_or hd 2 0) && leb (get_or hd 2 0) 60))) ≡ true
  pub wide : x.size.wide ≡ get_or hd 1 0
  pub high : x.size.high ≡ get_or hd 2 0
  pub attached : x.attached ≡ yes (get_or hd 3 0)
  pub prefix : x.prefix ≡ yes (get_or hd 4 0)
  pub next : x.next ≡ get_or hd 5 0
  pub pane : PaneIs (get_or hd 6 0) (get_or hd 7 0) (part m 256 64) x.pane
  pub pen : x.pen ≡ pen_from hd
  pub few : x.next < 2 ^ 47
  pub few_panes : get_or hd 7 0 < 2 ^ 47

-- a memory in use
pub used_found : (m : List ℕ) (x : Machine) → Read (part m 0 16) m x → used m ≡ state_of x m
unfolding state_of
used_found m x r =
    let o₁ = at_header m (get_or (part m 0 16) 6 0) (get_or (part m 0 16) 7 0) x.pane r.pane in
    let ws = windows_found (get_or (part m 0 16) 6 0) (get_or (part m 0 16) 7 0) (part m header_at 64) x.pane o₁ in
    let ps = panes_found (get_or (part m 0 16) 6 0) (get_or (part m 0 16) 7 0) (part m header_at 64) m x.pane o₁ in
    let w₁ = sym r.wide in let h₁ = sym r.high in let a₁ = sym r.attached in let p₁ = sym r.prefix in let n₁ = sym r.next in let e₁ = sym r.pen in
    λ i. state (record { wide = w₁ i; high = h₁ i; attached = a₁ i; windows = ws i; at = 0; panes = ps i; next = n₁ i; prefix = p₁ i })
    (record { wide = w₁ i; high = h₁ i; cells = part m screen_at (h₁ i * w₁ i); pen = e₁ i })

pane_fits : (has i : ℕ) (hd : List ℕ) (o : Option Held) → PaneIs has i hd o → or (not (yes has)) (header_fits hd) ≡ true
pane_fits has i hd None e = or_left (not (yes has)) (header_fits hd) (not_from_false (yes has) e)
pane_fits has i hd (Some p) e = or_right (not (yes has)) (header_fits hd) e.2.fits

pub fits_used : (m : List ℕ) (x : Machine) → Read (part m 0 16) m x → used_fits m ≡ true
fits_used m x r =
    and_from _ _ (and_from _ _ r.sized (and_from _ _ (lt-ltb _ _ (subst (λ (n : ℕ). n < 2 ^ 47) r.next r.few)) (lt-ltb _ _ r.few_panes)))
    (pane_fits (get_or (part m 0 16) 6 0) (get_or (part m 0 16) 7 0) (part m header_at 64) x.pane (at_header m (get_or (part m 0 16) 6 0) (get_or (part m 0 16) 7 0) x.pane r.pane))

pub found : (hd m : List ℕ) (x : Machine) → hd ≡ part m 0 16 → Read hd m x → Holds m x
found hd m x e r₀ =
    let r = subst (λ (h : List ℕ). Read h m x) e r₀ in
    record { fits = fits_used m x r; same = used_found m x r; few = r.few }

pub no_pane : (hd m : List ℕ) → hd ≡ part m 0 16 → yes (get_or hd 6 0) ≡ true → header_fits (part m 256 64) ≡ false → used_fits m ≡ false
no_pane hd m e a₀ b =
    let a : yes (get_or (part m 0 16) 6 0) ≡ true = ap (λ (h : List ℕ). yes (get_or h 6 0)) (sym e) ∙ a₀ in
    let b₁ : header_fits (part m header_at 64) ≡ false = ap (λ (k : ℕ). header_fits (part m k 64)) placed.header ∙ b in
    and_right (head_fits (part m 0 16)) _ (λ i. or (not (a i)) (b₁ i))

-- by the first number
kind_found : (m : List ℕ) → get_or (part m 0 16) 0 0 ≡ get_or m 0 0
kind_found m = get_or-take 16 m 0 0 (omega arith)

kind_odd : (k : ℕ) (b : Bool) → (k ≡ 0 → ⊥) → (k ≡ 1 → ⊥) → or (eqb k 0) (eqb k 1 && b) ≡ false
kind_odd k b p q = let e = ne_eqb k 0 p in let f = ne_eqb k 1 q in λ i. or (e i) (f i && b)

pub not_sized : (m : List ℕ) → (length m ≡ 238304 → ⊥) → memory_fits m ≡ false
unfolding memory_fits
not_sized m h = and_left _ _ (ne_eqb (length m) memory_size (λ e. h (e ∙ placed.size)))

pub not_kind : (m : List ℕ) → (get_or m 0 0 ≡ 0 → ⊥) → (get_or m 0 0 ≡ 1 → ⊥) → memory_fits m ≡ false
unfolding memory_fits
not_kind m p q = and_right (eqb (length m) memory_size) _ (kind_odd (get_or (part m 0 16) 0 0) (used_fits m) (λ e. p (sym (kind_found m) ∙ e)) (λ e. q (sym (kind_found m) ∙ e)))

pub first_found : (m : List ℕ) → length m ≡ 238304 → get_or m 0 0 ≡ 0 → (memory_fits m ≡ true) × (decode m ≡ state at_first (fresh_view 1 1))
unfolding memory_fits decode
first_found m l e =
    let k : get_or (part m 0 16) 0 0 ≡ 0 = kind_found m ∙ e in
    (and_from _ _ (eq-eqb (length m) memory_size (l ∙ sym placed.size)) (or_left (eqb (get_or (part m 0 16) 0 0) 0) _ (eq-eqb _ _ k)), rw k)

pub later_found : (m : List ℕ) → length m ≡ 238304 → get_or m 0 0 ≡ 1 → (memory_fits m ≡ used_fits m) × (decode m ≡ used m)
unfolding memory_fits decode
later_found m l e =
    let k : get_or (part m 0 16) 0 0 ≡ 1 = kind_found m ∙ e in
    let s : eqb (length m) memory_size ≡ true = eq-eqb (length m) memory_size (l ∙ sym placed.size) in
    (λ i. s i && or (eqb (k i) 0) (eqb (k i) 1 && used_fits m), rw k)
