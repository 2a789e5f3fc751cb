-- A layout's code is read as that layout, and so are those of several windows.
use Rattle.std.proofs.Common.{◌≡◌, ℕ, zero, suc, ◌+◌, ◌*◌, ◌^◌, ◌<◌, ◌≤◌, List, [], ◌∷◌, ◌++◌, length, refl, ap, ◌∙◌, append_assoc, arith, length-append}
use Rattle.std.specs.List.{AllByRecursion}
use Rattle.std.proofs.ByRecursion.{All-append}
use Rattle.std.proofs.lemmas.Bool.{ne_eqb}
use Rattle.meaning.specs.Words.{flat, each}
use Rattle.meaning.specs.Panes.{Layout, pane, beside, above, Window, ids}
use Rattle.stored.specs.Codes.{code, deep, good, second, both, parse, windows_code, are, with_first, then_read, parse_windows}
use Rattle.stored.specs.Laws.{WindowKept}

pub reads_back : (n : ℕ) (l : Layout) (rest : List ℕ) → deep l ≤ n → parse n (code l ++ rest) ≡ good l rest
unfolding parse code deep
reads_back zero (pane i) rest h = absurd (omega arith)
reads_back zero (beside a b) rest h = absurd (omega arith)
reads_back zero (above a b) rest h = absurd (omega arith)
reads_back (suc n) (pane i) rest h =
    rw (ne_eqb (i + 2) 0 (λ e. absurd (omega arith)), ne_eqb (i + 2) 1 (λ e. absurd (omega arith))) (ap (λ (j : ℕ). good (pane j) rest) (omega arith))
reads_back (suc n) (beside a b) rest h =
    ap (λ (z : List ℕ). both beside (λ r. parse n r) (parse n z)) (append_assoc (code a) (code b) rest)
    ∙ (ap (both beside (λ r. parse n r)) (reads_back n a (code b ++ rest) (omega arith)) ∙ ap (second beside a) (reads_back n b rest (omega arith)))
reads_back (suc n) (above a b) rest h =
    ap (λ (z : List ℕ). both above (λ r. parse n r) (parse n z)) (append_assoc (code a) (code b) rest)
    ∙ (ap (both above (λ r. parse n r)) (reads_back n a (code b ++ rest) (omega arith)) ∙ ap (second above a) (reads_back n b rest (omega arith)))

pub code_long : (l : Layout) → length (code l) ≡ deep l
unfolding code deep
code_long (pane i) = refl
code_long (beside a b) = ap suc (length-append (code a) (code b) ∙ (let p = code_long a in let q = code_long b in omega arith))
code_long (above a b) = ap suc (length-append (code a) (code b) ∙ (let p = code_long a in let q = code_long b in omega arith))

-- one number less than two for each pane
pub deep_ids : (l : Layout) → deep l + 1 ≡ 2 * length (ids l)
unfolding deep ids
deep_ids (pane i) = refl
deep_ids (beside a b) = let e = length-append (ids a) (ids b) in let p = deep_ids a in let q = deep_ids b in omega arith
deep_ids (above a b) = let e = length-append (ids a) (ids b) in let p = deep_ids a in let q = deep_ids b in omega arith

-- the codes of all windows
pub codes_long : (ws : List Window) → length (windows_code ws) + length ws ≡ 2 * length (flat (λ v. ids v.layout) ws)
codes_long [] = refl
codes_long (w ∷ ws) =
    let a = length-append (code w.layout) (windows_code ws) in
    let b = length-append (ids w.layout) (flat (λ v. ids v.layout) ws) in
    let c = code_long w.layout in
    let d = deep_ids w.layout in
    let e = codes_long ws in
    omega arith

pub windows_read : (ws : List Window) (rest : List ℕ) → length (windows_code ws) ≤ 64 → parse_windows (length ws) (windows_code ws ++ rest) ≡ are (each (λ v. v.layout) ws)
unfolding parse_windows
windows_read [] rest h = refl
windows_read (w ∷ ws) rest h =
    let a = length-append (code w.layout) (windows_code ws) in
    let c = code_long w.layout in
    ap (λ (z : List ℕ). then_read (λ r. parse_windows (length ws) r) (parse 64 z)) (append_assoc (code w.layout) (windows_code ws) rest)
    ∙ (ap (then_read (λ r. parse_windows (length ws) r)) (reads_back 64 w.layout (windows_code ws ++ rest) (omega arith))
    ∙ ap (with_first w.layout) (windows_read ws rest (omega arith)))

all_parts : (P : ℕ → Type 0) (xs ys : List ℕ) → AllByRecursion P (xs ++ ys) → AllByRecursion P xs × AllByRecursion P ys
all_parts P [] ys p = (tt, p)
all_parts P (x ∷ xs) ys p = let q = all_parts P xs ys p.1 in ((p.0, q.0), q.1)

-- small numbers of panes have small codes
code_small : (l : Layout) → AllByRecursion (λ i. i < 2 ^ 47) (ids l) → AllByRecursion (λ x. x < 2 ^ 47 + 2) (code l)
unfolding code ids
code_small (pane i) p = (let h = p.0 in omega arith, tt)
code_small (beside a b) p =
    let q = all_parts (λ i. i < 2 ^ 47) (ids a) (ids b) p in (omega arith, All-append _ (code a) (code b) (code_small a q.0) (code_small b q.1))
code_small (above a b) p =
    let q = all_parts (λ i. i < 2 ^ 47) (ids a) (ids b) p in (omega arith, All-append _ (code a) (code b) (code_small a q.0) (code_small b q.1))

pub codes_small : (ws : List Window) → AllByRecursion WindowKept ws → AllByRecursion (λ x. x < 2 ^ 47 + 2) (windows_code ws)
codes_small [] k = tt
codes_small (w ∷ ws) k = All-append _ (code w.layout) (windows_code ws) (code_small w.layout k.0.panes) (codes_small ws k.1)
