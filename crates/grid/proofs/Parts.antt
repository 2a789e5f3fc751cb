-- A part of one row is written over: what the edits within a row leave.
use Rattle.std.proofs.Common.{◌≡◌, ℕ, zero, suc, ◌+◌, ◌-◌, ◌*◌, ◌<◌, ◌≤◌, min, max, List, [], ◌∷◌, ◌++◌, map, length, get_or, take, drop, set, replicate, sym, refl, ap, ◌∙◌, inl, inr, mul-le-mul_right, suc-mul, arith, rules}
use borrow.Rule.Slice.PartMut.{put_mid}
use Rattle.std.proofs.lemmas.List.{drop-drop, drop_all, append-nil, append_assoc, length-drop, length-take, length-append, length-replicate, length-map, take-map, drop-map, map-append, map-set, drop-take, same_lists, places, take-append-drop, set-get_or}
use Rattle.std.proofs.lemmas.Bool.{cases_lt}
use Rattle.meaning.specs.Words.{put_at}
use Rattle.meaning.specs.Screen.{Cell, blank, row_at, opened, closed, wiped}
use Rattle.grid.specs.Cells.{pieces, rows_of, unpacked, blank_number}
use Rattle.grid.specs.Edits.{row_changed}
use Rattle.grid.proofs.Flat.{drop_min}
use Rattle.grid.proofs.Pieces.{getD_pieces, pieces_set, pieces_part}
use Rattle.grid.proofs.Regions.{map_replicate}

pub row_at_is : (rs : List (List Cell)) (k : ℕ) → row_at rs k ≡ get_or rs k []
row_at_is [] zero = refl
row_at_is [] (suc k) = refl
row_at_is (r ∷ rs) zero = refl
row_at_is (r ∷ rs) (suc k) = row_at_is rs k

-- a row lies within the cells
pub row_fits : (w h r e n : ℕ) → n ≡ h * w → r < h → e ≤ w → r * w + e ≤ n
row_fits w h r e n en rh ew = let k : suc r * w ≤ h * w = mul-le-mul_right w rh in omega (arith, suc-mul r w)

pub place_fits : (w h r c n : ℕ) → n ≡ h * w → r < h → c < w → r * w + c < n
place_fits w h r c n en rh cw = let k : suc r * w ≤ h * w = mul-le-mul_right w rh in omega (arith, suc-mul r w)

-- what stands in a row, and from c on
pub row_of_cells : (w h r : ℕ) (xs : List ℕ) → r < h → row_at (rows_of w h xs) r ≡ map unpacked (take w (drop (r * w) xs))
unfolding rows_of
row_of_cells w h r xs rh = row_at_is (pieces w h (map unpacked xs)) r ∙ getD_pieces w h r (map unpacked xs) rh ∙ rw (drop-map, take-map)

pub length_row : (w h r : ℕ) (xs : List ℕ) → r < h → length xs ≡ h * w → length (row_at (rows_of w h xs) r) ≡ w
length_row w h r xs rh lx =
    let k : suc r * w ≤ h * w = mul-le-mul_right w rh in
    ap length (row_of_cells w h r xs rh) ∙ simp (length-map, length-take, length-drop) (omega (arith, suc-mul r w))

pub row_from : (w h r c : ℕ) (xs : List ℕ) → r < h → c ≤ w → drop c (row_at (rows_of w h xs) r) ≡ map unpacked (take (w - c) (drop (r * w + c) xs))
row_from w h r c xs rh cw =
    let s : c + (w - c) ≡ w = omega arith in
    let t : take w (drop (r * w) xs) ≡ take (c + (w - c)) (drop (r * w) xs) = rw s in
    rw (row_of_cells w h r xs rh, t, drop-map, drop-take, drop-drop)

-- m cells from column c on are others
pub rows_part : (w h r c m : ℕ) (xs ys : List ℕ) → r < h → c + m ≤ w → length xs ≡ h * w → length ys ≡ m
    → rows_of w h (put_mid (r * w + c) m xs ys) ≡ put_at (rows_of w h xs) r (put_mid c m (row_at (rows_of w h xs) r) (map unpacked ys))
unfolding rows_of
rows_part w h r c m xs ys rh cw lx ly =
    let lm : h * w ≤ length (map unpacked xs) = rw length-map (omega arith) in
    let lu : length (map unpacked ys) ≡ m = rw length-map ly in
    let s : map unpacked (put_mid (r * w + c) m xs ys) ≡ put_mid (r * w + c) m (map unpacked xs) (map unpacked ys) = simp (map-append, drop-map, take-map) in
    rw (s, row_at_is (pieces w h (map unpacked xs)) r) (pieces_part w h r c m (map unpacked xs) (map unpacked ys) rh cw lm lu)

-- what put leaves
pub rows_put : (w h r c v : ℕ) (xs : List ℕ) → c < w → rows_of w h (set xs (r * w + c) v) ≡ row_changed (rows_of w h xs) r (λ x. put_at x c (unpacked v))
unfolding rows_of
rows_put w h r c v xs cw = rw (map-set, row_at_is (pieces w h (map unpacked xs)) r) (pieces_set w h r c (map unpacked xs) (unpacked v) cw)

-- the row from column c on, as it stands in the flat list
length_rest : (w h r c : ℕ) (xs : List ℕ) → r < h → c < w → length xs ≡ h * w → length (take (w - c) (drop (r * w + c) xs)) ≡ w - c
length_rest w h r c xs rh cw lx =
    let k : suc r * w ≤ h * w = mul-le-mul_right w rh in
    simp (length-take, length-drop) (omega (arith, suc-mul r w))

opened_is : (w c k : ℕ) (row : List Cell) → length row ≡ w → c ≤ w
    → put_mid c (w - c) row (replicate (min k (w - c)) blank ++ take (w - c - k) (drop c row)) ≡ opened w c k row
opened_is w c k row lr cw = same_lists _ _ (search (rules, places)) (λ k d h. grind (arith, places))

-- what insert_blanks leaves, rest being the row from column c on
pub rows_opened : (w h r c k : ℕ) (xs rest ys : List ℕ) → r < h → c < w → length xs ≡ h * w
    → rest ≡ take ((r * w + w) - (r * w + c)) (drop (r * w + c) xs)
    → ys ≡ replicate (min k (length rest)) blank_number ++ take (length rest - k) rest
    → rows_of w h (put_mid (r * w + c) ((r * w + w) - (r * w + c)) xs ys) ≡ row_changed (rows_of w h xs) r (opened w c k)
rows_opened w h r c k xs rest ys rh cw lx er₀ ey =
    let m : (r * w + w) - (r * w + c) ≡ w - c = omega arith in
    let er : rest ≡ take (w - c) (drop (r * w + c) xs) = rw m at er₀ in
    let n : length rest ≡ w - c = rw er (length_rest w h r c xs rh cw lx) in
    let cl : c ≤ w = omega arith in
    let lr : length (row_at (rows_of w h xs) r) ≡ w = length_row w h r xs rh lx in
    let ly : length ys ≡ w - c = rw ey (simp (length-append, length-replicate, length-take) (omega arith)) in
    let mu : map unpacked ys ≡ replicate (min k (w - c)) blank ++ take (w - c - k) (drop c (row_at (rows_of w h xs) r)) =
    rw (ey, row_from w h r c xs rh cl, ← er, n) (simp (map-append, map_replicate, take-map)) in
    rw m (rows_part w h r c (w - c) xs ys rh (omega arith) lx ly ∙ rw (mu, opened_is w c k (row_at (rows_of w h xs) r) lr cl))

closed_is : (w c k : ℕ) (row : List Cell) → length row ≡ w → c ≤ w
    → put_mid c (w - c) row (drop k (drop c row) ++ replicate (min k (w - c)) blank) ≡ closed w c k row
closed_is w c k row lr cw =
    let z : drop (w - c) (drop c row) ≡ [] = rw drop-drop (drop_all _ row (omega arith)) in
    rw (z, append-nil, drop-drop) (simp append_assoc)

-- what delete_cells leaves
pub rows_closed : (w h r c k : ℕ) (xs rest ys : List ℕ) → r < h → c < w → length xs ≡ h * w
    → rest ≡ take ((r * w + w) - (r * w + c)) (drop (r * w + c) xs)
    → ys ≡ drop k rest ++ replicate (min k (length rest)) blank_number
    → rows_of w h (put_mid (r * w + c) ((r * w + w) - (r * w + c)) xs ys) ≡ row_changed (rows_of w h xs) r (closed w c k)
rows_closed w h r c k xs rest ys rh cw lx er₀ ey =
    let m : (r * w + w) - (r * w + c) ≡ w - c = omega arith in
    let er : rest ≡ take (w - c) (drop (r * w + c) xs) = rw m at er₀ in
    let n : length rest ≡ w - c = rw er (length_rest w h r c xs rh cw lx) in
    let cl : c ≤ w = omega arith in
    let lr : length (row_at (rows_of w h xs) r) ≡ w = length_row w h r xs rh lx in
    let ly : length ys ≡ w - c = rw ey (simp (length-append, length-replicate, length-drop) (omega arith)) in
    let mu : map unpacked ys ≡ drop k (drop c (row_at (rows_of w h xs) r)) ++ replicate (min k (w - c)) blank =
    rw (ey, row_from w h r c xs rh cl, ← er, n) (simp (map-append, map_replicate, drop-map)) in
    rw m (rows_part w h r c (w - c) xs ys rh (omega arith) lx ly ∙ rw (mu, closed_is w c k (row_at (rows_of w h xs) r) lr cl))

wiped_is : (a b e : ℕ) (row : List Cell) → e ≡ min b (length row) → a < e → put_mid a (e - a) row (replicate (e - a) blank) ≡ wiped a b row
wiped_is a b e row ee ae =
    let l : max a b ≡ b = omega arith in
    let d : drop (e - a) (drop a row) ≡ drop b row = (let s : a + (e - a) ≡ min b (length row) = omega arith in rw (drop-drop, s) (drop_min b row)) in
    rw (l, d, ← ee) (simp append_assoc)

wiped_none : (a b : ℕ) (row : List Cell) → min b (length row) ≤ a → wiped a b row ≡ row
wiped_none a b row ba =
    let z : min b (length row) - a ≡ 0 = omega arith in
    let d : drop (max a b) row ≡ drop a row = elim (cases_lt a b)
    [ inl h ↦ drop_all (max a b) row (omega arith) ∙ sym (drop_all a row (omega arith)) | inr h ↦ (let l : max a b ≡ a = omega arith in rw l) ] in
    rw (z, d) (simp append-nil (take-append-drop a row))

-- what erase leaves, where it has something to do and where it has not
pub rows_wiped : (w h r a b e : ℕ) (xs ys : List ℕ) → r < h → length xs ≡ h * w → e ≡ min b w → a < e
    → ys ≡ replicate (length (take ((r * w + e) - (r * w + a)) (drop (r * w + a) xs))) blank_number
    → rows_of w h (put_mid (r * w + a) ((r * w + e) - (r * w + a)) xs ys) ≡ row_changed (rows_of w h xs) r (wiped a b)
rows_wiped w h r a b e xs ys rh lx ee ae ey =
    let k : suc r * w ≤ h * w = mul-le-mul_right w rh in
    let m : (r * w + e) - (r * w + a) ≡ e - a = omega arith in
    let n : length (take ((r * w + e) - (r * w + a)) (drop (r * w + a) xs)) ≡ e - a = simp (length-take, length-drop) (omega (arith, suc-mul r w)) in
    let ly : length ys ≡ e - a = rw (ey, length-replicate) n in
    let lr : length (row_at (rows_of w h xs) r) ≡ w = length_row w h r xs rh lx in
    let mu : map unpacked ys ≡ replicate (e - a) blank = rw (ey, n) (map_replicate unpacked (e - a) blank_number) in
    let el : e ≡ min b (length (row_at (rows_of w h xs) r)) = omega arith in
    rw m (rows_part w h r a (e - a) xs ys rh (omega arith) lx ly ∙ rw (mu, wiped_is a b e (row_at (rows_of w h xs) r) el ae))

pub rows_wiped_none : (w h r a b : ℕ) (xs : List ℕ) → r < h → length xs ≡ h * w → min b w ≤ a → rows_of w h xs ≡ row_changed (rows_of w h xs) r (wiped a b)
rows_wiped_none w h r a b xs rh lx ba =
    let lr : length (row_at (rows_of w h xs) r) ≡ w = length_row w h r xs rh lx in
    let e : wiped a b (row_at (rows_of w h xs) r) ≡ row_at (rows_of w h xs) r = wiped_none a b (row_at (rows_of w h xs) r) (omega arith) in
    sym (rw e (rw (row_at_is (rows_of w h xs) r) (set-get_or (rows_of w h xs) r [])))
