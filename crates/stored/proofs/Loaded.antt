-- What is loaded of a memory, pane by pane: each from its own header and cells, and all their cells together are those that stand there.
use Rattle.std.proofs.Common.{◌≡◌, ℕ, zero, suc, ◌+◌, ◌*◌, ◌≤◌, List, [], ◌∷◌, ◌++◌, length, get_or, take, drop, sym, refl, ap, ◌∙◌, arith, length-drop}
use lib.Seq.{take-append-add}
use Rattle.std.proofs.lemmas.List.{drop-drop, length-take-le, take-append-drop}
use Rattle.grid.specs.Cells.{cells_of}
use Rattle.grid.proofs.Codes.{cells_of_rows}
use Rattle.header.specs.Header.{term_from}
use Rattle.engine.specs.Memory.{terminal_from}
use Rattle.stored.specs.Many.{cells_asked, all_asked, panes_from, numbers, all_cells}

-- without the first k, the panes are those from the headers and cells behind
pub drop_panes : (k : ℕ) (is hs cs : List ℕ) → drop k (panes_from is hs cs) ≡ panes_from (drop k is) (drop (64 * k) hs) (drop (all_asked k hs) cs)
unfolding panes_from all_asked
drop_panes zero is hs cs = refl
drop_panes (suc k) [] hs cs = refl
drop_panes (suc k) (i ∷ is) hs cs =
    let n = cells_asked (take 64 hs) in
    let a : drop (64 * k) (drop 64 hs) ≡ drop (64 * suc k) hs = drop-drop (64 * k) 64 hs ∙ ap (λ (z : ℕ). drop z hs) (omega arith) in
    let b : drop (all_asked k (drop 64 hs)) (drop n cs) ≡ drop (n + all_asked k (drop 64 hs)) cs = drop-drop (all_asked k (drop 64 hs)) n cs in
    drop_panes k is (drop 64 hs) (drop n cs) ∙ (λ j. panes_from (drop k is) (a j) (b j))

pub numbers_loaded : (is hs cs : List ℕ) → numbers (panes_from is hs cs) ≡ is
unfolding panes_from
numbers_loaded [] hs cs = refl
numbers_loaded (i ∷ is) hs cs = ap (λ (z : List ℕ). i ∷ z) (numbers_loaded is _ _)

pub length_loaded : (is hs cs : List ℕ) → length (panes_from is hs cs) ≡ length is
unfolding panes_from
length_loaded [] hs cs = refl
length_loaded (i ∷ is) hs cs = ap suc (length_loaded is _ _)

-- a pane's cells are those that stand there
pub terminal_cells : (hd cs : List ℕ) → cells_asked hd ≤ length cs → cells_of (terminal_from hd cs).rows ≡ take (cells_asked hd) cs
unfolding term_from
terminal_cells hd cs h = cells_of_rows (get_or hd 0 0) (get_or hd 1 0) (take (cells_asked hd) cs) (length-take-le (cells_asked hd) cs h)

two_takes : (n k : ℕ) (xs : List ℕ) → n ≤ length xs → take n xs ++ take k (drop n xs) ≡ take (n + k) xs
two_takes n k xs h =
    let l = length-take-le n xs h in
    sym (take-append-add (take n xs) (drop n xs) k) ∙ (λ i. take (l i + k) (take-append-drop n xs i))

pub cells_loaded : (is hs cs : List ℕ) → all_asked (length is) hs ≤ length cs → all_cells (panes_from is hs cs) ≡ take (all_asked (length is) hs) cs
unfolding panes_from all_asked
cells_loaded [] hs cs h = refl
cells_loaded (i ∷ is) hs cs h =
    let n = cells_asked (take 64 hs) in
    let k = all_asked (length is) (drop 64 hs) in
    let l = length-drop n cs in
    (λ j. terminal_cells (take 64 hs) cs (omega arith) j ++ cells_loaded is (drop 64 hs) (drop n cs) (omega arith) j) ∙ two_takes n k cs (omega arith)
