-- A memory that was changed within an area that is then written over as a whole: only the last counts.
use Rattle.std.proofs.Common.{◌≡◌, ℕ, ◌+◌, ◌-◌, ◌≤◌, List, [], ◌∷◌, ◌++◌, length, take, drop, sym, refl, ap, ◌∙◌, append_assoc, arith, length-append}
use lib.ListN.{length-map}
use lib.Seq.{take-append-add}
use Rattle.std.proofs.lemmas.List.{take_at, drop_at, drop-drop, drop-append-le, drop-take, take_all, length-take-le}
use Rattle.std.proofs.lemmas.Slice.{take-put_mid_below, drop-put_mid}
use Rattle.meaning.specs.Panes.{Pane}
use Rattle.grid.specs.Cells.{cells_of}
use Rattle.engine.specs.Areas.{over, cut64, put}
use Rattle.engine.specs.State.{State}
use Rattle.engine.specs.Memory.{memory_size, screen_at, cells_at, with_cells, with_header, head_of, encode}
use Rattle.engine.proofs.Areas.{length_over}
use Rattle.engine.proofs.Maps.{placed}

-- where it fits, putting writes over
pub put_fits : (m : List ℕ) (a : ℕ) (xs : List ℕ) → a + length xs ≤ length m → put m a xs ≡ over m a (cut64 xs)
unfolding put
put_fits m a xs h =
    let k : length (cut64 xs) ≡ length xs = length-map xs _ in
    take_all (length m) (over m a (cut64 xs)) (let e = length_over m a (cut64 xs) (omega arith) in omega arith)

-- an area, and then one that begins there too and covers it
pub over_over : (m : List ℕ) (a : ℕ) (xs ys : List ℕ) → a ≤ length m → length xs ≤ length ys → over (over m a xs) a ys ≡ over m a ys
over_over m a xs ys h l =
    let rest = drop (length xs) (drop a m) in
    let k : ℕ = length ys - length xs in
    let n : length xs + k ≡ length ys = omega arith in
    let t : take a (over m a xs) ≡ take a m = take_at (take a m) (xs ++ rest) a (length-take-le a m h) in
    let d : drop a (over m a xs) ≡ xs ++ rest = drop_at (take a m) (xs ++ rest) a (length-take-le a m h) in
    let e : drop (length ys) (xs ++ rest) ≡ drop (length ys) (drop a m) =
    ap (λ (j : ℕ). drop j (xs ++ rest)) (sym n)
    ∙ (sym (drop-drop k (length xs) (xs ++ rest))
    ∙ (ap (drop k) (drop_at xs rest (length xs) refl) ∙ (drop-drop k (length xs) (drop a m) ∙ ap (λ (j : ℕ). drop j (drop a m)) n))) in
    rw (t, d, e)

take_over : (p c : ℕ) (xs ys : List ℕ) → length xs ≡ p → take (p + c) (xs ++ ys) ≡ xs ++ take c ys
take_over p c xs ys e = ap (λ (z : ℕ). take (z + c) (xs ++ ys)) (sym e) ∙ take-append-add xs ys c

-- two areas, the lower one in front, in either order
pub over_swap : (m : List ℕ) (a b : ℕ) (xs ys : List ℕ) → a + length xs ≤ b → b ≤ length m → over (over m b ys) a xs ≡ over (over m a xs) b ys
over_swap m a b xs ys h l =
    let n = length xs in
    let k = length ys in
    let y : List ℕ = ys ++ drop k (drop b m) in
    let la = length-take-le a m (omega arith) in
    let lb = length-take-le b m l in
    let p : take a (over m b ys) ≡ take a m = take-put_mid_below b k m ys a (omega arith) l in
    let q : drop n (drop a (over m b ys)) ≡ drop (a + n) (take b m) ++ y = drop-drop n a (over m b ys) ∙ drop-append-le (a + n) (take b m) y (omega arith) in
    let c : ℕ = b - (a + n) in
    let bc : (a + n) + c ≡ b = omega arith in
    let r : drop (a + n) (take b m) ≡ take c (drop (a + n) m) = ap (λ (z : ℕ). drop (a + n) (take z m)) (sym bc) ∙ drop-take (a + n) c m in
    let lx : length (take a m ++ xs) ≡ a + n = length-append (take a m) xs ∙ omega arith in
    let t : take b (over m a xs) ≡ take a m ++ (xs ++ take c (drop (a + n) m)) =
    ap (take b) (ap (λ (z : List ℕ). take a m ++ (xs ++ z)) (drop-drop n a m) ∙ sym (append_assoc (take a m) xs (drop (a + n) m)))
    ∙ (ap (λ (z : ℕ). take z ((take a m ++ xs) ++ drop (a + n) m)) (sym bc) ∙ (take_over (a + n) c (take a m ++ xs) (drop (a + n) m) lx ∙ append_assoc (take a m) xs (take c (drop (a + n) m)))) in
    let d : drop b (over m a xs) ≡ drop b m = drop-put_mid a n m xs b h (omega arith) refl in
    (λ i. p i ++ (xs ++ q i))
    ∙ (ap (λ (z : List ℕ). take a m ++ z) (ap (λ (z : List ℕ). xs ++ (z ++ y)) r ∙ sym (append_assoc xs (take c (drop (a + n) m)) y))
    ∙ (sym (append_assoc (take a m) (xs ++ take c (drop (a + n) m)) y)
    ∙ sym (λ i. t i ++ (ys ++ drop k (d i)))))

-- the viewer's cells changed where they stand, and then put in
screen_alone : (m vs xs : List ℕ) → length m ≡ memory_size → length xs ≤ 12000 → length vs ≤ length xs → put (over m screen_at vs) screen_at xs ≡ put m screen_at xs
screen_alone m vs xs l h e =
    let k = placed in
    let c : length (cut64 xs) ≡ length xs = length-map xs _ in
    let o = length_over m screen_at vs (omega arith) in
    put_fits (over m screen_at vs) screen_at xs (omega arith) ∙ (over_over m screen_at vs (cut64 xs) (omega arith) (omega arith) ∙ sym (put_fits m screen_at xs (omega arith)))

screen_after_cells : (m vs xs cs : List ℕ) → length m ≡ memory_size → length xs ≤ 12000 → length vs ≤ length xs → length cs ≤ 12000
    → put (put (over m screen_at vs) cells_at cs) screen_at xs ≡ put (put m cells_at cs) screen_at xs
screen_after_cells m vs xs cs l h e f =
    let k = placed in
    let c : length (cut64 cs) ≡ length cs = length-map cs _ in
    let o = length_over m screen_at vs (omega arith) in
    let u = over m cells_at (cut64 cs) in
    let lu = length_over m cells_at (cut64 cs) (omega arith) in
    let a : put (over m screen_at vs) cells_at cs ≡ over u screen_at vs =
    put_fits (over m screen_at vs) cells_at cs (omega arith) ∙ sym (over_swap m screen_at cells_at vs (cut64 cs) (omega arith) (omega arith)) in
    let b : put m cells_at cs ≡ u = put_fits m cells_at cs (omega arith) in
    ap (λ (z : List ℕ). put z screen_at xs) a ∙ (screen_alone u vs xs (lu ∙ l) h e ∙ ap (λ (z : List ℕ). put z screen_at xs) (sym b))

-- so that the state with these cells is put into either memory alike
pub encode_screen : (m vs : List ℕ) (s : State) → length m ≡ memory_size → length s.view.cells ≤ 12000 → length vs ≤ length s.view.cells
    → ((p : Pane) (ps : List Pane) → s.glass.panes ≡ p ∷ ps → length (cells_of p.term.rows) ≤ 12000)
    → encode (over m screen_at vs) s ≡ encode m s
unfolding encode
encode_screen m vs s l h e f =
    ap (λ (x : List ℕ). put (with_header x s.glass.panes) 0 (head_of s.glass s.view)) (same s.glass.panes f)
  where
    same : (qs : List Pane) → ((p : Pane) (ps : List Pane) → qs ≡ p ∷ ps → length (cells_of p.term.rows) ≤ 12000)
        → put (with_cells (over m screen_at vs) qs) screen_at s.view.cells ≡ put (with_cells m qs) screen_at s.view.cells
    same [] g = screen_alone m vs s.view.cells l h e
    same (p ∷ ps) g = screen_after_cells m vs s.view.cells (cells_of p.term.rows) l h e (g p ps refl)

-- the pane's cells changed where they stand, and then put in
pub encode_cells : (m cs : List ℕ) (s : State) (p : Pane) (ps : List Pane) → length m ≡ memory_size → s.glass.panes ≡ p ∷ ps
    → length (cells_of p.term.rows) ≡ length cs → length cs ≤ 12000 → encode (over m cells_at cs) s ≡ encode m s
unfolding encode
encode_cells m cs s p ps l e n h =
    let k = placed in
    let xs = cells_of p.term.rows in
    let c : length (cut64 xs) ≡ length xs = length-map xs _ in
    let o = length_over m cells_at cs (omega arith) in
    let a : put (over m cells_at cs) cells_at xs ≡ put m cells_at xs =
    put_fits (over m cells_at cs) cells_at xs (omega arith) ∙ (over_over m cells_at cs (cut64 xs) (omega arith) (omega arith) ∙ sym (put_fits m cells_at xs (omega arith))) in
    let b : with_cells (over m cells_at cs) s.glass.panes ≡ with_cells m s.glass.panes =
    ap (with_cells (over m cells_at cs)) e ∙ (a ∙ ap (with_cells m) (sym e)) in
    ap (λ (x : List ℕ). put (with_header (put x screen_at s.view.cells) s.glass.panes) 0 (head_of s.glass s.view)) b
