-- What drawing the status line leaves.
use Rattle.std.proofs.Common.{◌≡◌, ℕ, ◌-◌, ◌<◌, min, get_or, List, [], ◌∷◌, ◌++◌, map, length, take, drop, replicate, sym, ap, ◌∙◌, arith, rules}
use Rattle.std.proofs.lemmas.List.{take_min, length-map, get_or-map, map-append, take-map, drop-replicate, same_lists, places}
use Rattle.meaning.specs.Picture.{turned}
use Rattle.grid.specs.Cells.{unpacked}
use Rattle.grid.proofs.Regions.{map_replicate}
use Rattle.layout.specs.Window.{status_row}

-- a list filled up with x to the length n, or cut to it
pub filled_up : {A : Type 0} (n : ℕ) (s : List A) (x : A) → take n s ++ replicate (n - length s) x ≡ take n (s ++ replicate n x)
filled_up n s x = same_lists _ _ (search (rules, places)) (λ k d h. grind (arith, places))

pub each_turned : (xs ys : List ℕ) → length ys ≡ length xs → ((i : ℕ) → i < length xs → unpacked (get_or ys i 0) ≡ turned (get_or xs i 0)) → map unpacked ys ≡ map turned xs
each_turned xs ys l f =
    let n = length-map ys unpacked in
    same_lists _ _ (n ∙ (l ∙ sym (length-map xs turned)))
    (λ k d h. get_or-map unpacked ys k 0 d (omega arith) ∙ (f k (omega arith) ∙ sym (get_or-map turned xs k 0 d (omega arith))))

-- ss are the signs and a the blank among them; fs is the row filled with blanks and ps the signs that have room
pub status_drawn : (a n k : ℕ) (ss fs ps : List ℕ) → unpacked a ≡ turned 32 → map unpacked ss ≡ turned 32 ∷ turned 48 ∷ turned 42 ∷ [] → k ≡ min n 3
    → fs ≡ replicate n a → ps ≡ take k ss → map unpacked (ps ++ drop k fs) ≡ status_row n
status_drawn a n k ss fs ps ea es ek ef ep =
    let front : map unpacked ps ≡ take k (turned 32 ∷ turned 48 ∷ turned 42 ∷ []) = ap (map unpacked) ep ∙ (sym (take-map unpacked k ss) ∙ ap (take k) es) in
    let back : map unpacked (drop k fs) ≡ replicate (n - k) (turned 32) = rw (ef, drop-replicate) (map_replicate unpacked (n - k) a ∙ ap (replicate (n - k)) ea) in
    let m : n - k ≡ n - 3 = omega arith in
    rw (map-append, front, back, m, ek, take_min n (turned 32 ∷ turned 48 ∷ turned 42 ∷ [])) (filled_up n (turned 32 ∷ turned 48 ∷ turned 42 ∷ []) (turned 32))
