-- Whole rows are replaced: what the edits of rows leave.
use Rattle.std.proofs.Common.{◌≡◌, ℕ, zero, suc, ◌+◌, ◌-◌, ◌*◌, ◌<◌, ◌≤◌, min, true, eqb, List, ◌∷◌, ◌++◌, map, length, take, drop, replicate, sym, refl, ap, ◌∙◌, mul-le-mul_right, suc-mul, mul_comm, add-one, arith}
use native.Mathlib.Nat.{mul-sub}
use borrow.Rule.Slice.PartMut.{put_mid}
use Rattle.std.proofs.lemmas.List.{append_assoc, append-nil, drop_all, length-drop, length-take, length-append, length-replicate, length-map, take-map, drop-map, map-append, take-take}
use Rattle.std.proofs.lemmas.Bool.{eq-eqb}
use Rattle.meaning.specs.Words.{every}
use Rattle.meaning.specs.Screen.{Cell, blank, blank_row, scrolled_up, scrolled_down}
use Rattle.grid.specs.Cells.{pieces, rows_of, unpacked, blank_number}
use Rattle.grid.specs.Edits.{rows_blanked}
use Rattle.grid.proofs.Pieces.{length_pieces, take_pieces, drop_pieces, pieces_take, pieces_replicate, pieces_region, pieces_up, pieces_down}

pub map_replicate : {A B : Type 0} (f : A → B) (n : ℕ) (x : A) → map f (replicate n x) ≡ replicate n (f x)
map_replicate f zero x = refl
map_replicate f (suc n) x = ap (λ t. f x ∷ t) (map_replicate f n x)

pub length_rows : (w h : ℕ) (xs : List ℕ) → length (rows_of w h xs) ≡ h
unfolding rows_of
length_rows w h xs = length_pieces w h (map unpacked xs)

pieces_wide : {A : Type 0} (w h : ℕ) (xs : List A) → h * w ≤ length xs → every (λ (r : List A). eqb (length r) w) (pieces w h xs) ≡ true
unfolding pieces
pieces_wide w zero xs l = refl
pieces_wide w (suc h) xs l =
    let f : suc h * w ≡ w + h * w = suc-mul h w ∙ omega arith in
    let t : length (take w xs) ≡ w = simp length-take (omega arith) in
    let d : h * w ≤ length (drop w xs) = simp length-drop (omega arith) in
    rw (eq-eqb (length (take w xs)) w t) (pieces_wide w h (drop w xs) d)

-- every row is as wide as the screen
pub rows_wide : (w h : ℕ) (xs : List ℕ) → length xs ≡ h * w → every (λ (r : List Cell). eqb (length r) w) (rows_of w h xs) ≡ true
unfolding rows_of
rows_wide w h xs l = pieces_wide w h (map unpacked xs) (rw length-map (omega arith))

pub rows_replicate : (w h : ℕ) → rows_of w h (replicate (h * w) blank_number) ≡ replicate h (blank_row w)
unfolding rows_of
rows_replicate w h = rw map_replicate (pieces_replicate w h blank)

-- the rows from a up to e are others
pub rows_region : (w h a e : ℕ) (xs ys : List ℕ) → a ≤ e → e ≤ h → length xs ≡ h * w → length ys ≡ (e - a) * w
    → rows_of w h (put_mid (a * w) (e * w - a * w) xs ys) ≡ take a (rows_of w h xs) ++ (rows_of w (e - a) ys ++ drop e (rows_of w h xs))
unfolding rows_of
rows_region w h a e xs ys ae eh lx ly =
    let lm : length (map unpacked xs) ≡ h * w = rw length-map lx in
    let lu : length (map unpacked ys) ≡ (e - a) * w = rw length-map ly in
    let s : map unpacked (put_mid (a * w) (e * w - a * w) xs ys) ≡ put_mid (a * w) (e * w - a * w) (map unpacked xs) (map unpacked ys) = simp (map-append, drop-map, take-map) in
    rw s (pieces_region w h a e (map unpacked xs) (map unpacked ys) ae eh lm lu)

-- the rows from a up to e, as they stand in the flat list
pub length_between_rows : (w h a e : ℕ) (xs : List ℕ) → a ≤ e → e ≤ h → length xs ≡ h * w → length (take (e * w - a * w) (drop (a * w) xs)) ≡ (e - a) * w
length_between_rows w h a e xs ae eh lx =
    let ew : e * w ≤ h * w = mul-le-mul_right w eh in
    simp (length-take, length-drop) (omega (arith, mul-sub w e a, mul_comm w e, mul_comm w a, mul_comm w (e - a)))

pub rows_between : (w h a e : ℕ) (xs : List ℕ) → e ≤ h → rows_of w (e - a) (take (e * w - a * w) (drop (a * w) xs)) ≡ take (e - a) (drop a (rows_of w h xs))
unfolding rows_of
rows_between w h a e xs eh =
    let dw : e * w - a * w ≡ (e - a) * w = omega (arith, mul-sub w e a, mul_comm w e, mul_comm w a, mul_comm w (e - a)) in
    let em : e - a ≤ h - a = omega arith in
    rw (dw, ← take-map, ← drop-map, pieces_take, drop_pieces w a h (map unpacked xs), take_pieces w (e - a) (h - a) (drop (a * w) (map unpacked xs)) em)

rows_up : (w m k : ℕ) (mid : List ℕ) → length mid ≡ m * w
    → rows_of w m (drop (min k m * w) mid ++ replicate (min (min k m * w) (length mid)) blank_number) ≡ drop k (rows_of w m mid) ++ replicate (min k m) (blank_row w)
unfolding rows_of
rows_up w m k mid lm =
    let qw : min k m * w ≤ m * w = mul-le-mul_right w (omega arith) in
    let mm : min (min k m * w) (length mid) ≡ min k m * w = omega arith in
    let lu : length (map unpacked mid) ≡ m * w = rw length-map lm in
    rw (mm, map-append, map_replicate, ← drop-map) (pieces_up w m k (map unpacked mid) blank lu)

rows_down : (w m k : ℕ) (mid : List ℕ) → length mid ≡ m * w
    → rows_of w m (replicate (min (min k m * w) (length mid)) blank_number ++ take (length mid - min k m * w) mid) ≡ replicate (min k m) (blank_row w) ++ take (m - k) (rows_of w m mid)
unfolding rows_of
rows_down w m k mid lm =
    let qw : min k m * w ≤ m * w = mul-le-mul_right w (omega arith) in
    let mm : min (min k m * w) (length mid) ≡ min k m * w = omega arith in
    let mk : m - k ≡ m - min k m = omega arith in
    let md : length mid - min k m * w ≡ (m - k) * w = rw mk (omega (arith, mul-sub w m (min k m), mul_comm w m, mul_comm w (min k m), mul_comm w (m - min k m))) in
    let lu : length (map unpacked mid) ≡ m * w = rw length-map lm in
    rw (mm, md, map-append, map_replicate, ← take-map) (pieces_down w m k (map unpacked mid) blank lu)

-- what scroll_up leaves, mid being the rows that move
pub rows_scrolled_up : (w h a b k q : ℕ) (xs mid ys : List ℕ) → a ≤ b → b < h → length xs ≡ h * w → q ≡ min k (b + 1 - a)
    → mid ≡ take ((b + 1) * w - a * w) (drop (a * w) xs) → ys ≡ drop (q * w) mid ++ replicate (min (q * w) (length mid)) blank_number
    → rows_of w h (put_mid (a * w) ((b + 1) * w - a * w) xs ys) ≡ scrolled_up w (rows_of w h xs) a b k
rows_scrolled_up w h a b k q xs mid ys ab bh lx eq em ey =
    let ae : a ≤ b + 1 = omega arith in
    let eh : b + 1 ≤ h = omega arith in
    let lm : length mid ≡ (b + 1 - a) * w = rw em (length_between_rows w h a (b + 1) xs ae eh lx) in
    let qw : q * w ≤ (b + 1 - a) * w = mul-le-mul_right w (omega arith) in
    let ly : length ys ≡ (b + 1 - a) * w = rw ey (simp (length-append, length-drop, length-replicate) (omega arith)) in
    let u : rows_of w (b + 1 - a) ys ≡ drop k (take (b + 1 - a) (drop a (rows_of w h xs))) ++ replicate (min k (b + 1 - a)) (blank_row w) =
    rw (ey, eq) (rows_up w (b + 1 - a) k mid lm ∙ rw (em, rows_between w h a (b + 1) xs eh)) in
    let sb : suc b ≡ b + 1 = sym (add-one b) in
    rw sb (rows_region w h a (b + 1) xs ys ae eh lx ly ∙ rw u (simp append_assoc))

-- what scroll_down leaves
pub rows_scrolled_down : (w h a b k q : ℕ) (xs mid ys : List ℕ) → a ≤ b → b < h → length xs ≡ h * w → q ≡ min k (b + 1 - a)
    → mid ≡ take ((b + 1) * w - a * w) (drop (a * w) xs) → ys ≡ replicate (min (q * w) (length mid)) blank_number ++ take (length mid - q * w) mid
    → rows_of w h (put_mid (a * w) ((b + 1) * w - a * w) xs ys) ≡ scrolled_down w (rows_of w h xs) a b k
rows_scrolled_down w h a b k q xs mid ys ab bh lx eq em ey =
    let ae : a ≤ b + 1 = omega arith in
    let eh : b + 1 ≤ h = omega arith in
    let lm : length mid ≡ (b + 1 - a) * w = rw em (length_between_rows w h a (b + 1) xs ae eh lx) in
    let qw : q * w ≤ (b + 1 - a) * w = mul-le-mul_right w (omega arith) in
    let ly : length ys ≡ (b + 1 - a) * w = rw ey (simp (length-append, length-take, length-replicate) (omega arith)) in
    let tt₁ : take (b + 1 - a - k) (take (b + 1 - a) (drop a (rows_of w h xs))) ≡ take (b + 1 - a - k) (drop a (rows_of w h xs)) = take-take (b + 1 - a - k) (b + 1 - a) (drop a (rows_of w h xs)) (omega arith) in
    let u : rows_of w (b + 1 - a) ys ≡ replicate (min k (b + 1 - a)) (blank_row w) ++ take (b + 1 - a - k) (drop a (rows_of w h xs)) =
    rw (ey, eq) (rows_down w (b + 1 - a) k mid lm ∙ rw (em, rows_between w h a (b + 1) xs eh, tt₁)) in
    let sb : suc b ≡ b + 1 = sym (add-one b) in
    rw sb (rows_region w h a (b + 1) xs ys ae eh lx ly ∙ rw u (simp append_assoc))

-- what erase_rows leaves
pub rows_filled : (w h a e : ℕ) (xs ys : List ℕ) → a ≤ e → e ≤ h → length xs ≡ h * w
    → ys ≡ replicate (length (take (e * w - a * w) (drop (a * w) xs))) blank_number
    → rows_of w h (put_mid (a * w) (e * w - a * w) xs ys) ≡ rows_blanked w (rows_of w h xs) a e
rows_filled w h a e xs ys ae eh lx ey =
    let ey' : ys ≡ replicate ((e - a) * w) blank_number = ey ∙ rw (length_between_rows w h a e xs ae eh lx) in
    let ly : length ys ≡ (e - a) * w = rw ey' (length-replicate _ _) in
    let u : rows_of w (e - a) ys ≡ replicate (e - a) (blank_row w) = rw ey' (rows_replicate w (e - a)) in
    rows_region w h a e xs ys ae eh lx ly ∙ rw u (simp append_assoc)

-- blanked down to the last row, from the first row on, and all
pub blanked_below : (w h a : ℕ) (rs : List (List Cell)) → length rs ≡ h → rows_blanked w rs a h ≡ take a rs ++ replicate (h - a) (blank_row w)
blanked_below w h a rs l = rw (drop_all h rs (omega arith), append-nil)

pub blanked_above : (w b : ℕ) (rs : List (List Cell)) → rows_blanked w rs 0 b ≡ replicate b (blank_row w) ++ drop b rs
blanked_above w b rs = let z : b - 0 ≡ b = omega arith in rw z

pub blanked_all : (w h : ℕ) (rs : List (List Cell)) → length rs ≡ h → rows_blanked w rs 0 h ≡ replicate h (blank_row w)
blanked_all w h rs l = blanked_above w h rs ∙ rw (drop_all h rs (omega arith), append-nil)

-- rows lie within the cells
pub row_starts_in : (w h e n : ℕ) → n ≡ h * w → e ≤ h → e * w ≤ n
row_starts_in w h e n en eh = let k : e * w ≤ h * w = mul-le-mul_right w eh in omega arith
