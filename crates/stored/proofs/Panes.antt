-- Windows and panes are found again in what was made of them.
use Rattle.std.proofs.Common.{◌≡◌, ℕ, ◌+◌, ◌*◌, ◌^◌, ◌<◌, true, ltb, List, [], ◌∷◌, ◌++◌, length, get_or, take, drop, sym, refl, ap, ◌∙◌, append_assoc, arith, length-append}
use Rattle.std.specs.List.{AllByRecursion}
use Rattle.std.proofs.lemmas.List.{take_at, drop_at}
use Rattle.std.proofs.lemmas.Bool.{and_from}
use Rattle.meaning.specs.Words.{every, each}
use Rattle.meaning.specs.Screen.{Cell, Term, with_rows, with_answer}
use Rattle.meaning.specs.Panes.{Window, Pane}
use Rattle.meaning.specs.Promise.{all_small}
use Rattle.grid.specs.Cells.{rows_of, cells_of}
use Rattle.header.specs.Header.{header_fits, header_of, InRange}
use Rattle.header.proofs.Laws.{header_long, loads_back}
use Rattle.engine.specs.Memory.{terminal_from}
use Rattle.engine.proofs.Areas.{every_append}
use Rattle.stored.specs.Many.{cells_asked, headers_fit, all_asked, windows_of, panes_from, focuses, numbers, headers, all_cells}
use Rattle.stored.specs.Laws.{WindowKept, PaneKept}

-- windows, from their layouts and focuses
pub windows_back : (ws : List Window) (rest : List ℕ) → windows_of (each (λ v. v.layout) ws) (focuses ws ++ rest) ≡ ws
unfolding windows_of
windows_back [] rest = refl
windows_back (w ∷ ws) rest = ap (λ (z : List Window). w ∷ z) (windows_back ws rest)

pub focuses_small : (ws : List Window) → AllByRecursion WindowKept ws → AllByRecursion (λ i. i < 2 ^ 47) (focuses ws)
focuses_small [] k = tt
focuses_small (w ∷ ws) k = (k.0.focus, focuses_small ws k.1)

pub numbers_small : (ps : List Pane) → AllByRecursion PaneKept ps → AllByRecursion (λ i. i < 2 ^ 47) (numbers ps)
numbers_small [] k = tt
numbers_small (p ∷ ps) k = (k.0.number, numbers_small ps k.1)

-- a terminal, from its header and cells
asked : (t : Term) → cells_asked (header_of t) ≡ t.high * t.wide
unfolding header_of
asked t = refl

header_rows : (t : Term) (xs : List ℕ) → take (t.high * t.wide) xs ≡ cells_of t.rows
    → rows_of (get_or (header_of t) 0 0) (get_or (header_of t) 1 0) (take (get_or (header_of t) 1 0 * get_or (header_of t) 0 0) xs) ≡ rows_of t.wide t.high (cells_of t.rows)
unfolding header_of
header_rows t xs e = ap (rows_of t.wide t.high) e

terminal_back : (t : Term) (xs : List ℕ) → InRange t → t.answer ≡ [] → take (t.high * t.wide) xs ≡ cells_of t.rows → rows_of t.wide t.high (cells_of t.rows) ≡ t.rows
    → terminal_from (header_of t) xs ≡ t
terminal_back t xs r a e b =
    (loads_back t r).1 (rows_of (get_or (header_of t) 0 0) (get_or (header_of t) 1 0) (take (get_or (header_of t) 1 0 * get_or (header_of t) 0 0) xs)) []
    ∙ (ap (λ (rs : List (List Cell)). with_answer (with_rows t rs) []) (header_rows t xs e ∙ b) ∙ ap (with_answer t) (sym a))

-- the first header and what is behind it
first_header : (p : Pane) (ps : List Pane) (rest : List ℕ) → take 64 (headers (p ∷ ps) ++ rest) ≡ header_of p.term
first_header p ps rest =
    ap (take 64) (append_assoc (header_of p.term) (headers ps) rest) ∙ take_at (header_of p.term) (headers ps ++ rest) 64 (header_long p.term)

more_headers : (p : Pane) (ps : List Pane) (rest : List ℕ) → drop 64 (headers (p ∷ ps) ++ rest) ≡ headers ps ++ rest
more_headers p ps rest =
    ap (drop 64) (append_assoc (header_of p.term) (headers ps) rest) ∙ drop_at (header_of p.term) (headers ps ++ rest) 64 (header_long p.term)

-- panes, from their numbers, headers and cells
pub panes_back : (ps : List Pane) (hs cs : List ℕ) → AllByRecursion PaneKept ps → panes_from (numbers ps) (headers ps ++ hs) (all_cells ps ++ cs) ≡ ps
unfolding panes_from
panes_back [] hs cs k = refl
panes_back (p ∷ ps) hs cs k =
    let t = p.term in
    let q = k.0 in
    let xs = cells_of t.rows in
    let n : length xs ≡ t.high * t.wide = q.long in
    let j : all_cells (p ∷ ps) ++ cs ≡ xs ++ (all_cells ps ++ cs) = append_assoc xs (all_cells ps) cs in
    let a = first_header p ps hs in
    let b = more_headers p ps hs in
    let c : terminal_from (take 64 (headers (p ∷ ps) ++ hs)) (all_cells (p ∷ ps) ++ cs) ≡ t =
    ap (λ (h : List ℕ). terminal_from h (all_cells (p ∷ ps) ++ cs)) a
    ∙ (ap (terminal_from (header_of t)) j ∙ terminal_back t (xs ++ (all_cells ps ++ cs)) q.range q.silent (take_at xs (all_cells ps ++ cs) (t.high * t.wide) n) q.rows) in
    let d : drop (cells_asked (take 64 (headers (p ∷ ps) ++ hs))) (all_cells (p ∷ ps) ++ cs) ≡ all_cells ps ++ cs =
    ap (λ (h : List ℕ). drop (cells_asked h) (all_cells (p ∷ ps) ++ cs)) a
    ∙ (ap (λ (z : ℕ). drop z (all_cells (p ∷ ps) ++ cs)) (asked t) ∙ (ap (drop (t.high * t.wide)) j ∙ drop_at xs (all_cells ps ++ cs) (t.high * t.wide) n)) in
    (λ i. record { id = p.id; term = c i } ∷ panes_from (numbers ps) (b i) (d i)) ∙ ap (λ (z : List Pane). p ∷ z) (panes_back ps hs cs k.1)

pub headers_are_fit : (ps : List Pane) (hs : List ℕ) → AllByRecursion PaneKept ps → headers_fit (length ps) (headers ps ++ hs) ≡ true
unfolding headers_fit
headers_are_fit [] hs k = refl
headers_are_fit (p ∷ ps) hs k =
    and_from _ _ (ap header_fits (first_header p ps hs) ∙ (loads_back p.term k.0.range).0)
    (ap (headers_fit (length ps)) (more_headers p ps hs) ∙ headers_are_fit ps hs k.1)

pub all_asked_is : (ps : List Pane) (hs : List ℕ) → AllByRecursion PaneKept ps → all_asked (length ps) (headers ps ++ hs) ≡ length (all_cells ps)
unfolding all_asked
all_asked_is [] hs k = refl
all_asked_is (p ∷ ps) hs k =
    let a : cells_asked (take 64 (headers (p ∷ ps) ++ hs)) ≡ p.term.high * p.term.wide = ap cells_asked (first_header p ps hs) ∙ asked p.term in
    let b : all_asked (length ps) (drop 64 (headers (p ∷ ps) ++ hs)) ≡ length (all_cells ps) = ap (all_asked (length ps)) (more_headers p ps hs) ∙ all_asked_is ps hs k.1 in
    let c = k.0.long in
    (λ i. a i + b i) ∙ ((λ i. sym c i + length (all_cells ps)) ∙ sym (length-append (cells_of p.term.rows) (all_cells ps)))

-- their numbers are small, and not too many
header_small : (t : Term) → InRange t → every (λ x. ltb x (2 ^ 64)) (header_of t) ≡ true
unfolding all_small
header_small t r = (loads_back t r).2

pub headers_small : (ps : List Pane) → AllByRecursion PaneKept ps → every (λ x. ltb x (2 ^ 64)) (headers ps) ≡ true
headers_small [] k = refl
headers_small (p ∷ ps) k = every_append (λ x. ltb x (2 ^ 64)) (header_of p.term) (headers ps) (header_small p.term k.0.range) (headers_small ps k.1)

pub headers_long : (ps : List Pane) → length (headers ps) ≡ 64 * length ps
headers_long [] = refl
headers_long (p ∷ ps) = let a = length-append (header_of p.term) (headers ps) in let b = header_long p.term in let c = headers_long ps in omega arith

pub cells_small : (ps : List Pane) → AllByRecursion PaneKept ps → every (λ x. ltb x (2 ^ 64)) (all_cells ps) ≡ true
cells_small [] k = refl
cells_small (p ∷ ps) k = every_append (λ x. ltb x (2 ^ 64)) (cells_of p.term.rows) (all_cells ps) k.0.small (cells_small ps k.1)
