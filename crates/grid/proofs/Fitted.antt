-- A screen's rows brought to another size, one row after the other.
use Rattle.std.proofs.Common.{◌≡◌, ℕ, suc, ◌+◌, ◌-◌, ◌*◌, ◌<◌, ◌≤◌, min, List, [], ◌∷◌, ◌++◌, map, length, get_or, take, drop, set, replicate, sym, ap, ◌∙◌, arith, rules}
use borrow.Rule.Slice.PartMut.{put_mid}
use Rattle.std.proofs.lemmas.List.{append_assoc, length-drop, length-map, length-take-le, get_or-map, get_or-drop, get_or_at, set_at, take_more, take-take, take-map, same_lists, places}
use Rattle.meaning.specs.Words.{each, so_many}
use Rattle.meaning.specs.Screen.{Cell, blank_row, row_at, fitted_row}
use Rattle.grid.specs.Cells.{rows_of, unpacked, blank_number}
use Rattle.grid.specs.Edits.{rows_fitted}
use Rattle.grid.proofs.Regions.{length_rows, rows_replicate}
use Rattle.grid.proofs.Parts.{row_at_is, row_of_cells, length_row, rows_part}

-- the first k rows as they are to be, and blank ones below
abbrev pub fitted_so_far : ℕ → ℕ → ℕ → List (List Cell) → ℕ → List (List Cell)
fitted_so_far w h skip rs k = take k (each (fitted_row w) (drop skip rs)) ++ so_many (h - k) (blank_row w)

pub fitted_none : (w h : ℕ) (xs ys : List ℕ) → length xs ≡ h * w → ys ≡ replicate (length xs) blank_number → rows_of w h ys ≡ so_many (h - 0) (blank_row w)
fitted_none w h xs ys lx ey = let z : h - 0 ≡ h = omega arith in rw (ey, lx, z) (rows_replicate w h)

-- a cut row over a blank one is the row fitted
fitted_row_is : (w m : ℕ) (r : List Cell) → m ≡ min (length r) w → put_mid 0 m (blank_row w) (take m r) ≡ fitted_row w r
fitted_row_is w m r em = same_lists _ _ (search (rules, places)) (λ k d h. grind (arith, places))

fitted_end : {A : Type 0} (h k : ℕ) (fs : List A) (b : A) → k ≡ min (length fs) h → take k fs ++ replicate (h - k) b ≡ take h (fs ++ replicate h b)
fitted_end h k fs b ek = same_lists _ _ (search (rules, places)) (λ k d h. grind (arith, places))

length_fitted : (w w₂ h₂ skip : ℕ) (zs : List ℕ) → length (each (fitted_row w) (drop skip (rows_of w₂ h₂ zs))) ≡ h₂ - skip
length_fitted w w₂ h₂ skip zs = simp (length-map, length-drop, length_rows)

pub fitted_all : (w h w₂ h₂ skip k : ℕ) (xs zs : List ℕ) → k ≡ min (h₂ - skip) h → rows_of w h xs ≡ fitted_so_far w h skip (rows_of w₂ h₂ zs) k
    → rows_of w h xs ≡ rows_fitted w h skip (rows_of w₂ h₂ zs)
fitted_all w h w₂ h₂ skip k xs zs ek inv =
    inv ∙ fitted_end h k (each (fitted_row w) (drop skip (rows_of w₂ h₂ zs))) (blank_row w) (omega (arith, length_fitted w w₂ h₂ skip zs))

getD_fitted : (w w₂ h₂ skip k : ℕ) (zs : List ℕ) → skip + k < h₂
    → get_or (each (fitted_row w) (drop skip (rows_of w₂ h₂ zs))) k [] ≡ fitted_row w (row_at (rows_of w₂ h₂ zs) (skip + k))
getD_fitted w w₂ h₂ skip k zs kh =
    let l : k < length (drop skip (rows_of w₂ h₂ zs)) = simp (length-drop, length_rows) (omega arith) in
    get_or-map (fitted_row w) (drop skip (rows_of w₂ h₂ zs)) k [] [] l
    ∙ ap (fitted_row w) (get_or-drop skip (rows_of w₂ h₂ zs) k [] ∙ sym (row_at_is (rows_of w₂ h₂ zs) (skip + k)))

-- row k put in: fs are the rows as they are to be
set_next : {A : Type 0} (h k : ℕ) (fs : List A) (b d : A) → k < h → k < length fs
    → set (take k fs ++ replicate (h - k) b) k (get_or fs k d) ≡ take (k + 1) fs ++ replicate (h - (k + 1)) b
set_next h k fs b d kh kl =
    let s : h - k ≡ suc (h - (k + 1)) = omega arith in
    let l : length (take k fs) ≡ k = length-take-le k fs (omega arith) in
    rw (s, set_at (take k fs) b (replicate (h - (k + 1)) b) (get_or fs k d) k l, take_more fs k d kl) (sym (append_assoc (take k fs) (get_or fs k d ∷ []) (replicate (h - (k + 1)) b)))

row_next : (h k : ℕ) (fs : List (List Cell)) (b : List Cell) → k < h → k < length fs → row_at (take k fs ++ replicate (h - k) b) k ≡ b
row_next h k fs b kh kl =
    let s : h - k ≡ suc (h - (k + 1)) = omega arith in
    let l : length (take k fs) ≡ k = length-take-le k fs (omega arith) in
    row_at_is (take k fs ++ replicate (h - k) b) k ∙ rw s (get_or_at (take k fs) b (replicate (h - (k + 1)) b) [] k l)

-- one turn: row skip + k of the old screen is copied into row k, m being as many cells as both have
pub fitted_more : (w h w₂ h₂ skip k m n n₁ : ℕ) (xs ys zs : List ℕ) → length xs ≡ h * w → length zs ≡ h₂ * w₂ → m ≡ min w₂ w → skip + k < h₂ → k < h
    → n ≡ m → n₁ ≡ m → ys ≡ take n₁ (drop ((skip + k) * w₂) zs)
    → rows_of w h xs ≡ fitted_so_far w h skip (rows_of w₂ h₂ zs) k
    → rows_of w h (put_mid (k * w) n xs ys) ≡ fitted_so_far w h skip (rows_of w₂ h₂ zs) (k + 1)
fitted_more w h w₂ h₂ skip k m n n₁ xs ys zs lx lz em sk kh en en₁ ey inv =
    let old : List (List Cell) = rows_of w₂ h₂ zs in
    let row : List Cell = row_at (rows_of w₂ h₂ zs) (skip + k) in
    let fs : List (List Cell) = each (fitted_row w) (drop skip (rows_of w₂ h₂ zs)) in
    let lf : k < length (each (fitted_row w) (drop skip (rows_of w₂ h₂ zs))) = omega (arith, length_fitted w w₂ h₂ skip zs) in
    let lr : length (row_at (rows_of w₂ h₂ zs) (skip + k)) ≡ w₂ = length_row w₂ h₂ (skip + k) zs sk lz in
    let mw : m ≤ w₂ = omega arith in
    let mr : m ≡ min (length (row_at (rows_of w₂ h₂ zs) (skip + k))) w = omega arith in
    let my : map unpacked ys ≡ take m (row_at (rows_of w₂ h₂ zs) (skip + k)) =
    rw (ey, en₁, row_of_cells w₂ h₂ (skip + k) zs sk, take-map) (ap (map unpacked) (sym (take-take m w₂ (drop ((skip + k) * w₂) zs) mw))) in
    let ly : length ys ≡ m = sym (length-map ys unpacked) ∙ (ap length my ∙ length-take-le m (row_at (rows_of w₂ h₂ zs) (skip + k)) (omega arith)) in
    let z : k * w ≡ k * w + 0 = omega arith in
    let p : rows_of w h (put_mid (k * w + 0) m xs ys) ≡ set (rows_of w h xs) k (put_mid 0 m (row_at (rows_of w h xs) k) (map unpacked ys)) = rows_part w h k 0 m xs ys kh (omega arith) lx ly in
    rw (z, en) (p ∙ rw (inv, row_next h k fs (blank_row w) kh lf, my, fitted_row_is w m row mr, ← getD_fitted w w₂ h₂ skip k zs sk) (set_next h k fs (blank_row w) [] kh lf))
