-- A state whose cells stand in memory already is stored by its head and its pane's header alone.
use Rattle.std.proofs.Common.{◌≡◌, ℕ, ◌+◌, ◌*◌, ◌≤◌, true, List, [], length, Some, None, Option, sym, refl, ap, ◌∙◌, subst, mul-le-mul, arith}
use borrow.Rule.Slice.PartMut.{put_mid}
use Rattle.meaning.specs.Screen.{Cell}
use Rattle.meaning.specs.Panes.{Pane}
use Rattle.grid.specs.Cells.{rows_of, cells_of}
use Rattle.grid.specs.declared.size.Size.{Size}
use Rattle.grid.proofs.Codes.{cells_of_rows}
use Rattle.terminal.specs.Terms.{term_of}
use Rattle.header.specs.Header.{header_of}
use Rattle.engine.specs.Areas.{part, put}
use Rattle.engine.specs.State.{state}
use Rattle.engine.specs.Memory.{header_at, screen_at, cells_at, head_of, with_cells, with_header, encode}
use Rattle.engine.proofs.Areas.{length_over}
use Rattle.engine.proofs.Maps.{placed}
use Rattle.machine.specs.States.{terminal_in, panes_of, glass_of, with_next, view_of}
use Rattle.machine.specs.declared.state.Held.{Held}
use Rattle.machine.specs.declared.state.Machine.{Machine}
use Rattle.machine.proofs.Stays.{small, small_part, length_part, lent_over, lent_put, part_lent, part_lent_above, put_part}

few_cells : (s : Size) → s.high * s.wide ≤ 12000
few_cells s = let k = s.ok in mul-le-mul k.3 k.1

-- the cells of a screen that stands in memory, put there
cells_stay : (m : List ℕ) (s : Size) → length m ≡ 238304 → small (part m cells_at (s.high * s.wide)) ≡ true → put m cells_at (cells_of (rows_of s.wide s.high (part m cells_at (s.high * s.wide)))) ≡ m
cells_stay m s l e =
    let k = placed in
    let f = few_cells s in
    let h : cells_at + s.high * s.wide ≤ length m = omega arith in
    ap (put m cells_at) (cells_of_rows s.wide s.high (part m cells_at (s.high * s.wide)) (length_part m cells_at (s.high * s.wide) h)) ∙ put_part m cells_at (s.high * s.wide) h e

pane_stays : (m : List ℕ) (o : Option Held) → length m ≡ 238304 → ((n : ℕ) → small (part m cells_at n) ≡ true) → with_cells m (panes_of o m) ≡ m
pane_stays m None l e = refl
pane_stays m (Some p) l e = cells_stay m p.terminal.size l (e (p.terminal.size.high * p.terminal.size.wide))

-- the memory m after the header of the pane o was stored in it, where there is a pane
pub record Headed (m mid : List ℕ) (o : Option Held) : Type 0 where
  pub long : length mid ≡ 238304
  pub above : (b n : ℕ) → 320 ≤ b → part mid b n ≡ part m b n
  pub header : small (part mid 256 64) ≡ true → mid ≡ with_header m (panes_of o m)

pub header_placed : (m mid hs : List ℕ) (o : Option Held) (p : Held) → length m ≡ 238304 → length hs ≡ 64 → o ≡ Some p
    → ((rs : List (List Cell)) (a : List ℕ) → hs ≡ header_of (term_of p.terminal rs a)) → mid ≡ put_mid 256 64 m hs → Headed m mid o
header_placed m mid hs o p l lh is e q =
    let put_in : small hs ≡ true → mid ≡ with_header m (panes_of o m) = (λ s.
    q
    ∙ (lent_put m 256 64 hs (omega arith) lh s
    ∙ (ap (λ (a : ℕ). put m a hs) (sym placed.header)
    ∙ (ap (put m header_at) (e (terminal_in p.terminal m).rows []) ∙ ap (λ (z : Option Held). with_header m (panes_of z m)) (sym is))))) in
    record {
      long = ap length q ∙ (ap length (lent_over m 256 64 hs lh) ∙ (length_over m 256 hs (omega arith) ∙ l));
      above = λ b n h. ap (λ (y : List ℕ). part y b n) q ∙ part_lent_above m 256 64 hs b n (omega arith) lh h;
      header = λ s. put_in (subst (λ (y : List ℕ). small y ≡ true) (ap (λ (y : List ℕ). part y 256 64) q ∙ part_lent m 256 64 hs (omega arith) lh) s);
    }

pub no_header : (m mid : List ℕ) (o : Option Held) → length m ≡ 238304 → o ≡ None → mid ≡ m → Headed m mid o
no_header m mid o l is q = record {
  long = ap length q ∙ l;
  above = λ b n h. ap (λ (y : List ℕ). part y b n) q;
  header = λ s. q ∙ ap (λ (z : Option Held). with_header m (panes_of z m)) (sym is);
}

-- the machine x stored, with n as the number that the next pane gets
pub stored_is : (x : Machine) (n : ℕ) (m mid hs : List ℕ) → length m ≡ 238304 → Headed m mid x.pane → length hs ≡ 16 → hs ≡ head_of (with_next (glass_of x m) n) (view_of x m)
    → small (put_mid 0 16 mid hs) ≡ true → put_mid 0 16 mid hs ≡ encode m (state (with_next (glass_of x m) n) (view_of x m))
unfolding encode
stored_is x n m mid hs l d lh f s =
    let k = placed in
    let lm = d.long in
    let new : List ℕ = put_mid 0 16 mid hs in
    let ps : List Pane = panes_of x.pane m in
    let vs : List ℕ = part m screen_at (x.size.high * x.size.wide) in
    let behind : (b n : ℕ) → 16 ≤ b → small (part mid b n) ≡ true = (λ b n h. subst (λ (y : List ℕ). small y ≡ true) (part_lent_above mid 0 16 hs b n (omega arith) lh (omega arith)) (small_part new b n s)) in
    let smalls : (b n : ℕ) → 320 ≤ b → small (part m b n) ≡ true = (λ b n h. subst (λ (y : List ℕ). small y ≡ true) (d.above b n h) (behind b n (omega arith))) in
    let first : small hs ≡ true = subst (λ (y : List ℕ). small y ≡ true) (part_lent mid 0 16 hs (omega arith) lh) (small_part new 0 16 s) in
    let view : put m screen_at vs ≡ m =
    (let c = few_cells x.size in put_part m screen_at (x.size.high * x.size.wide) (omega arith) (smalls screen_at (x.size.high * x.size.wide) (omega arith))) in
    let pane : with_cells m ps ≡ m = pane_stays m x.pane l (λ j. smalls cells_at j (omega arith)) in
    lent_put mid 0 16 hs (omega arith) lh first
    ∙ (ap (λ (y : List ℕ). put y 0 hs) (d.header (behind 256 64 (omega arith)))
    ∙ (ap (put (with_header m ps) 0) f ∙ ap (λ (y : List ℕ). put (with_header y ps) 0 (head_of (with_next (glass_of x m) n) (view_of x m))) (sym (ap (λ (y : List ℕ). put y screen_at vs) pane ∙ view))))
