-- A memory that was changed within an area into which a state is then put: only the last counts.
use Rattle.std.proofs.Common.{◌≡◌, ℕ, ◌+◌, ◌≤◌, List, ◌++◌, length, take, drop, sym, refl, ap, ◌∙◌, arith}
use lib.ListN.{length-map}
use Rattle.std.proofs.lemmas.List.{drop-drop, take-append-drop}
use Rattle.std.proofs.lemmas.Slice.{take-put_mid_below, drop-put_mid}
use Rattle.engine.specs.Areas.{part, over, cut64, put}
use Rattle.engine.specs.State.{State}
use Rattle.engine.specs.Memory.{memory_size, header_at, screen_at, cells_at}
use Rattle.engine.proofs.Areas.{length_over}
use Rattle.engine.proofs.Maps.{placed}
use Rattle.engine.proofs.Rewrites.{put_fits, over_swap}
use Rattle.stored.specs.Many.{headers, all_cells, many_head, many_encode}
use Rattle.stored.specs.Laws.{Room}
use Rattle.stored.proofs.Areas.{cells_room_is, all_areas}
use Rattle.stored.proofs.Panes.{headers_long}
use Rattle.stored.proofs.Many.{head_long}

-- an area, within one that is then written over as a whole
pub over_within : (m : List ℕ) (a o : ℕ) (xs ys : List ℕ) → a + length ys ≤ length m → o + length xs ≤ length ys → over (over m (a + o) xs) a ys ≡ over m a ys
over_within m a o xs ys h l =
    let n = length ys in
    let t : take a (over m (a + o) xs) ≡ take a m = take-put_mid_below (a + o) (length xs) m xs a (omega arith) (omega arith) in
    let d : drop (a + n) (over m (a + o) xs) ≡ drop (a + n) m = drop-put_mid (a + o) (length xs) m xs (a + n) (omega arith) (omega arith) refl in
    λ i. t i ++ (ys ++ (drop-drop n a (over m (a + o) xs) ∙ (d ∙ sym (drop-drop n a m))) i)

-- what stands there already
pub over_same : (m : List ℕ) (a : ℕ) (xs : List ℕ) → part m a (length xs) ≡ xs → over m a xs ≡ m
over_same m a xs e =
    ap (λ (z : List ℕ). take a m ++ (z ++ drop (length xs) (drop a m))) (sym e) ∙ (ap (λ (z : List ℕ). take a m ++ z) (take-append-drop (length xs) (drop a m)) ∙ take-append-drop a m)

-- a state that has room is written over, area by area
abbrev pub areas_of : List ℕ → State → List ℕ
areas_of m s = all_areas m (cut64 (many_head s.glass s.view)) (cut64 (headers s.glass.panes)) (cut64 s.view.cells) (cut64 (all_cells s.glass.panes))

pub encode_is : (m : List ℕ) (s : State) → length m ≡ memory_size → Room s → many_encode m s ≡ areas_of m s
unfolding many_encode
encode_is m s lm r =
    let k = placed in
    let q = cells_room_is in
    let head = many_head s.glass s.view in
    let hs = headers s.glass.panes in
    let vs = s.view.cells in
    let cs = all_cells s.glass.panes in
    let ch : length (cut64 hs) ≡ length hs = length-map hs _ in
    let cv : length (cut64 vs) ≡ length vs = length-map vs _ in
    let cc₁ : length (cut64 cs) ≡ length cs = length-map cs _ in
    let lh = head_long s.glass s.view in
    let ld = headers_long s.glass.panes in
    let np = r.panes in let nv = r.screen in let nc = r.cells in
    let m₁ = over m cells_at (cut64 cs) in
    let m₂ = over m₁ screen_at (cut64 vs) in
    let m₃ = over m₂ header_at (cut64 hs) in
    let l₁ = length_over m cells_at (cut64 cs) (omega arith) in
    let l₂ = length_over m₁ screen_at (cut64 vs) (omega arith) in
    let l₃ = length_over m₂ header_at (cut64 hs) (omega arith) in
    ap (λ (x : List ℕ). put (put (put x screen_at vs) header_at hs) 0 head) (put_fits m cells_at cs (omega arith))
    ∙ (ap (λ (x : List ℕ). put (put x header_at hs) 0 head) (put_fits m₁ screen_at vs (omega arith))
    ∙ (ap (λ (x : List ℕ). put x 0 head) (put_fits m₂ header_at hs (omega arith)) ∙ put_fits m₃ 0 head (omega arith)))

-- panes' cells changed where they stand, and then all put in
pub encode_cells : (m : List ℕ) (o : ℕ) (xs : List ℕ) (s : State) → length m ≡ memory_size → Room s → o + length xs ≤ length (all_cells s.glass.panes)
    → many_encode (over m (cells_at + o) xs) s ≡ many_encode m s
encode_cells m o xs s lm r h =
    let k = placed in
    let q = cells_room_is in
    let nc = r.cells in
    let cs = cut64 (all_cells s.glass.panes) in
    let c : length cs ≡ length (all_cells s.glass.panes) = length-map (all_cells s.glass.panes) _ in
    let l = length_over m (cells_at + o) xs (omega arith) in
    encode_is (over m (cells_at + o) xs) s (l ∙ lm) r
    ∙ (ap (λ (z : List ℕ). over (over (over z screen_at (cut64 s.view.cells)) header_at (cut64 (headers s.glass.panes))) 0 (cut64 (many_head s.glass s.view)))
    (over_within m cells_at o xs cs (omega arith) (omega arith)) ∙ sym (encode_is m s lm r))

-- the viewer's cells
pub encode_screen : (m : List ℕ) (o : ℕ) (xs : List ℕ) (s : State) → length m ≡ memory_size → Room s → o + length xs ≤ length s.view.cells
    → many_encode (over m (screen_at + o) xs) s ≡ many_encode m s
encode_screen m o xs s lm r h =
    let k = placed in
    let q = cells_room_is in
    let nc = r.cells in
    let nv = r.screen in
    let cs = cut64 (all_cells s.glass.panes) in
    let vs = cut64 s.view.cells in
    let c : length cs ≡ length (all_cells s.glass.panes) = length-map (all_cells s.glass.panes) _ in
    let d : length vs ≡ length s.view.cells = length-map s.view.cells _ in
    let l = length_over m (screen_at + o) xs (omega arith) in
    let m₁ = over m cells_at cs in
    let l₁ = length_over m cells_at cs (omega arith) in
    encode_is (over m (screen_at + o) xs) s (l ∙ lm) r
    ∙ (ap (λ (z : List ℕ). over (over z header_at (cut64 (headers s.glass.panes))) 0 (cut64 (many_head s.glass s.view)))
    (ap (λ (z : List ℕ). over z screen_at vs) (sym (over_swap m (screen_at + o) cells_at xs cs (omega arith) (omega arith))) ∙ over_within m₁ screen_at o xs vs (omega arith) (omega arith))
    ∙ sym (encode_is m s lm r))

-- the panes' headers
pub encode_headers : (m : List ℕ) (o : ℕ) (xs : List ℕ) (s : State) → length m ≡ memory_size → Room s → o + length xs ≤ length (headers s.glass.panes)
    → many_encode (over m (header_at + o) xs) s ≡ many_encode m s
encode_headers m o xs s lm r h =
    let k = placed in
    let q = cells_room_is in
    let np = r.panes in let nc = r.cells in let nv = r.screen in
    let cs = cut64 (all_cells s.glass.panes) in
    let vs = cut64 s.view.cells in
    let hs = cut64 (headers s.glass.panes) in
    let c : length cs ≡ length (all_cells s.glass.panes) = length-map (all_cells s.glass.panes) _ in
    let d : length vs ≡ length s.view.cells = length-map s.view.cells _ in
    let e : length hs ≡ length (headers s.glass.panes) = length-map (headers s.glass.panes) _ in
    let f = headers_long s.glass.panes in
    let l = length_over m (header_at + o) xs (omega arith) in
    let m₁ = over m cells_at cs in
    let l₁ = length_over m cells_at cs (omega arith) in
    let m₂ = over m₁ screen_at vs in
    let l₂ = length_over m₁ screen_at vs (omega arith) in
    encode_is (over m (header_at + o) xs) s (l ∙ lm) r
    ∙ (ap (λ (z : List ℕ). over z 0 (cut64 (many_head s.glass s.view)))
    (ap (λ (z : List ℕ). over (over z screen_at vs) header_at hs) (sym (over_swap m (header_at + o) cells_at xs cs (omega arith) (omega arith)))
    ∙ (ap (λ (z : List ℕ). over z header_at hs) (sym (over_swap m₁ (header_at + o) screen_at xs vs (omega arith) (omega arith))) ∙ over_within m₂ header_at o xs hs (omega arith) (omega arith)))
    ∙ sym (encode_is m s lm r))
