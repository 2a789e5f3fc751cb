-- What is accepted as a memory that holds a state: every number that is used is in range, and the state has room.
use Rattle.std.proofs.Common.{◌≡◌, ℕ, zero, suc, ◌+◌, ◌*◌, ◌^◌, ◌<◌, ◌≤◌, true, eqb, ltb, leb, List, length, get_or, take, drop, sym, ap, subst, inl, inr, mul-le-mul, arith, length-drop, length-take}
use Rattle.std.specs.List.{AllByRecursion}
use Rattle.std.proofs.lemmas.Bool.{and_parts, eqb-true, ltb-true, leb-true, or_cases, eq-eqb, ne_eqb, cond-true, cond-false}
use Rattle.std.proofs.lemmas.Bool.Decides.{Decides-ltb}
use Rattle.meaning.proofs.Edits.{decides_every}
use Rattle.meaning.specs.Words.{every}
use Rattle.meaning.specs.Panes.{at_first}
use Rattle.engine.specs.Areas.{part}
use Rattle.engine.specs.State.{state, fresh_view}
use Rattle.engine.specs.Memory.{memory_size, header_at, screen_at, cells_at}
use Rattle.engine.proofs.Maps.{placed}
use Rattle.stored.specs.Many.{cells_room, head_part, headers_fit, all_asked, size_fits, counts_fit, numbers_fit, head_fits, panes_fit, many_fits, many_state, many_decode}
use Rattle.stored.specs.Laws.{InUse, ManyRefuses, Room, ManyRoom}
use Rattle.stored.proofs.Areas.{cells_room_is}
use Rattle.stored.proofs.Loaded.{length_loaded, cells_loaded}

all_below : (n : ℕ) (xs : List ℕ) → every (λ x. ltb x n) xs ≡ true → AllByRecursion (λ x. x < n) xs
all_below n xs e = (decides_every (λ x. ltb x n) (λ x. x < n) (λ x. Decides-ltb x n) xs).0 e

used : (h hs : List ℕ) → eqb (get_or h 0 0) 2 ≡ true → head_fits h ≡ true → panes_fit (get_or h 8 0) hs ≡ true → InUse h hs
unfolding head_fits
used h hs k e f =
    let a = and_parts (size_fits h) _ e in
    let b = and_parts (counts_fit h) _ a.1 in
    let c = and_parts (numbers_fit h) _ b.1 in
    let w = and_parts (ltb 0 (get_or h 1 0)) _ a.0 in
    let x = and_parts (leb (get_or h 1 0) 200) _ w.1 in
    let y = and_parts (ltb 0 (get_or h 2 0)) _ x.1 in
    let p = and_parts (ltb (get_or h 5 0) 8) _ b.0 in
    let q = and_parts (ltb (get_or h 6 0) (2 ^ 47)) _ p.1 in
    let r = and_parts (leb (get_or h 7 0) 8) _ q.1 in
    let s = and_parts (every (λ i. ltb i (2 ^ 47)) (part h 16 8)) _ c.0 in
    let t = and_parts (every (λ i. ltb i (2 ^ 47 + 2)) (part h 24 64)) _ s.1 in
    let u = and_parts (headers_fit (get_or h 8 0) hs) _ f in
    record {
      kind = eqb-true _ _ k;
      some_wide = ltb-true _ _ w.0;
      wide = leb-true _ _ x.0;
      some_high = ltb-true _ _ y.0;
      high = leb-true _ _ y.1;
      at = ltb-true _ _ p.0;
      next = ltb-true _ _ q.0;
      few_windows = leb-true _ _ r.0;
      few_panes = leb-true _ _ r.1;
      focuses = all_below _ _ s.0;
      codes = all_below _ _ t.0;
      numbers = all_below _ _ t.1;
      layouts = c.1;
      headers = u.0;
      cells = leb-true _ _ u.1;
    }

pub many_refuses : ManyRefuses
unfolding many_fits
many_refuses m e =
    let a = and_parts (eqb (length m) memory_size) _ e in (
      eqb-true _ _ a.0,
      elim (or_cases (eqb (get_or (head_part m) 0 0) 0) _ a.1) [
        | inl z ↦ inl (eqb-true _ _ z)
        | inr u ↦ (let b = and_parts (eqb (get_or (head_part m) 0 0) 2) _ u in let c = and_parts (head_fits (head_part m)) _ b.1 in inr (used (head_part m) (drop header_at m) b.0 c.0 c.1))
      ],
    )

-- the state has room
few_cells : (w h : ℕ) → w ≤ 200 → h ≤ 60 → h * w ≤ 12000
few_cells w h a b = mul-le-mul b a

-- fewer headers ask for no more
less_asked : (j k : ℕ) (hs : List ℕ) → j ≤ k → all_asked j hs ≤ all_asked k hs
unfolding all_asked
less_asked zero k hs h = omega arith
less_asked (suc j) zero hs h = absurd (omega arith)
less_asked (suc j) (suc k) hs h = let e = less_asked j k (drop 64 hs) (omega arith) in omega arith

used_room : (h hs vs cs : List ℕ) → InUse h hs → cells_room ≤ length cs → Room (many_state h hs vs cs)
used_room h hs vs cs u l =
    let k = get_or h 8 0 in
    let is : List ℕ = take k (part h 128 32) in
    let a = length-take k (part h 128 32) in
    let n = length_loaded is hs cs in
    let v = length-take (get_or h 2 0 * get_or h 1 0) vs in
    let f = few_cells (get_or h 1 0) (get_or h 2 0) u.wide u.high in
    let p = u.few_panes in
    let r = u.cells in
    let d = less_asked (length is) k hs (omega arith) in
    let c = cells_loaded is hs cs (omega arith) in
    let e = ap length c in
    let g = length-take (all_asked (length is) hs) cs in
    record { panes = omega arith; screen = omega arith; cells = omega arith }

decoded_used : (m : List ℕ) → get_or (head_part m) 0 0 ≡ 2 → many_decode m ≡ many_state (head_part m) (drop header_at m) (drop screen_at m) (drop cells_at m)
unfolding many_decode
decoded_used m k = cond-false _ _ _ (ne_eqb (get_or (head_part m) 0 0) 0 (λ e. absurd (omega arith)))

decoded_unused : (m : List ℕ) → get_or (head_part m) 0 0 ≡ 0 → many_decode m ≡ state at_first (fresh_view 1 1)
unfolding many_decode
decoded_unused m k = cond-true _ _ _ (eq-eqb _ _ k)

pub many_room : ManyRoom
many_room m e =
    let a = many_refuses m e in
    let l = a.0 in
    elim a.1 [
      | inl z ↦ subst Room (sym (decoded_unused m z)) (record { panes = omega arith; screen = omega arith; cells = omega arith })
      | inr u ↦ subst Room (sym (decoded_used m u.kind)) (used_room (head_part m) (drop header_at m) (drop screen_at m) (drop cells_at m) u (let k = placed in let r = cells_room_is in let d = length-drop cells_at m in omega arith))
    ]
