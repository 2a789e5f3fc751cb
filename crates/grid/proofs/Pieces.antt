-- How a flat list and its pieces go together: what is done to the one, seen on the other.
use Rattle.std.proofs.Common.{◌≡◌, ℕ, zero, suc, ◌+◌, ◌-◌, ◌*◌, ◌<◌, ◌≤◌, min, List, [], ◌∷◌, ◌++◌, length, get_or, take, drop, set, replicate, refl, ap, ◌∙◌, le_of_suc-le-suc, not-suc-le-zero, mul-le-mul_right, suc-mul, mul_comm, suc-add, zero-add, zero-mul, arith, rules}
use native.Mathlib.Nat.{mul-sub}
use borrow.Rule.Slice.PartMut.{put_mid}
use Rattle.std.proofs.lemmas.List.{drop-drop, length-drop, length-take, length-replicate, take-append-le, drop-append-le, take-replicate, drop-replicate, take-set-le, drop-set-lt, drop-set-add, take-take, drop-take, same_lists, places}
use Rattle.std.proofs.lemmas.Slice.{take-put_mid_below, drop-put_mid}
use Rattle.grid.specs.Cells.{pieces}
use Rattle.grid.proofs.Flat.{drop_min}

pub length_pieces : {A : Type 0} (w h : ℕ) (xs : List A) → length (pieces w h xs) ≡ h
unfolding pieces
length_pieces w zero xs = refl
length_pieces w (suc h) xs = ap suc (length_pieces w h (drop w xs))

pub take_pieces : {A : Type 0} (w a h : ℕ) (xs : List A) → a ≤ h → take a (pieces w h xs) ≡ pieces w a xs
unfolding pieces
take_pieces w zero h xs le = refl
take_pieces w (suc a) zero xs le = absurd (not-suc-le-zero le)
take_pieces w (suc a) (suc h) xs le = ap (λ t. take w xs ∷ t) (take_pieces w a h (drop w xs) (le_of_suc-le-suc le))

pub drop_pieces : {A : Type 0} (w a h : ℕ) (xs : List A) → drop a (pieces w h xs) ≡ pieces w (h - a) (drop (a * w) xs)
unfolding pieces
drop_pieces w zero h xs = let e : h - 0 ≡ h = omega arith in rw (e, zero-mul)
drop_pieces w (suc a) zero xs = let e : 0 - suc a ≡ 0 = omega arith in rw e
drop_pieces w (suc a) (suc h) xs =
    let e : suc h - suc a ≡ h - a = omega arith in
    let f : suc a * w ≡ w + a * w = suc-mul a w ∙ omega arith in
    rw (e, f) (drop_pieces w a h (drop w xs) ∙ rw drop-drop)

pub getD_pieces : {A : Type 0} (w h r : ℕ) (xs : List A) → r < h → get_or (pieces w h xs) r [] ≡ take w (drop (r * w) xs)
unfolding pieces
getD_pieces w zero r xs lt = absurd (not-suc-le-zero lt)
getD_pieces w (suc h) zero xs lt = rw zero-mul
getD_pieces w (suc h) (suc r) xs lt =
    let g : suc r * w ≡ w + r * w = suc-mul r w ∙ omega arith in
    rw g (getD_pieces w h r (drop w xs) (le_of_suc-le-suc lt) ∙ rw drop-drop)

pub pieces_append : {A : Type 0} (w a b : ℕ) (xs ys : List A) → length xs ≡ a * w → pieces w (a + b) (xs ++ ys) ≡ pieces w a xs ++ pieces w b ys
unfolding pieces
pieces_append w zero b [] ys e = rw zero-add
pieces_append w zero b (x ∷ xs) ys e = absurd (omega (arith, zero-mul w))
pieces_append w (suc a) b xs ys e =
    let f : suc a * w ≡ w + a * w = suc-mul a w ∙ omega arith in
    let l : w ≤ length xs = omega arith in
    let g : length (drop w xs) ≡ a * w = simp length-drop (omega arith) in
    rw (suc-add, take-append-le, drop-append-le) (ap (λ t. take w xs ∷ t) (pieces_append w a b (drop w xs) ys g))

pub pieces_take : {A : Type 0} (w a : ℕ) (xs : List A) → pieces w a (take (a * w) xs) ≡ pieces w a xs
unfolding pieces
pieces_take w zero xs = refl
pieces_take w (suc a) xs =
    let f : suc a * w ≡ w + a * w = suc-mul a w ∙ omega arith in
    let l : w ≤ w + a * w = omega arith in
    rw (f, take-take, drop-take) (ap (λ t. take w xs ∷ t) (pieces_take w a (drop w xs)))

pub pieces_replicate : {A : Type 0} (w h : ℕ) (x : A) → pieces w h (replicate (h * w) x) ≡ replicate h (replicate w x)
unfolding pieces
pieces_replicate w zero x = refl
pieces_replicate w (suc h) x =
    let f : suc h * w ≡ w + h * w = suc-mul h w ∙ omega arith in
    let l : w ≤ w + h * w = omega arith in
    let g : w + h * w - w ≡ h * w = omega arith in
    rw (f, take-replicate, drop-replicate, g) (ap (λ t. replicate w x ∷ t) (pieces_replicate w h x))

pub take_set_comm : {A : Type 0} (n : ℕ) (xs : List A) (i : ℕ) (y : A) → take n (set xs i y) ≡ set (take n xs) i y
take_set_comm zero xs i y = refl
take_set_comm (suc n) [] i y = refl
take_set_comm (suc n) (x ∷ xs) zero y = refl
take_set_comm (suc n) (x ∷ xs) (suc i) y = ap (λ t. x ∷ t) (take_set_comm n xs i y)

pub pieces_set : {A : Type 0} (w h r c : ℕ) (xs : List A) (y : A) → c < w
    → pieces w h (set xs (r * w + c) y) ≡ set (pieces w h xs) r (set (get_or (pieces w h xs) r []) c y)
unfolding pieces
pieces_set w zero r c xs y lt = refl
pieces_set w (suc h) zero c xs y lt =
    let e : 0 * w + c ≡ c = rw zero-mul (omega arith) in
    rw (e, take_set_comm, drop-set-lt)
pieces_set w (suc h) (suc r) c xs y lt =
    let f : suc r * w + c ≡ w + (r * w + c) = rw suc-mul (omega arith) in
    let l : w ≤ w + (r * w + c) = omega arith in
    rw (f, take-set-le, drop-set-add) (ap (λ t. take w xs ∷ t) (pieces_set w h r c (drop w xs) y lt))

-- the pieces from a up to e are others
pub pieces_region : {A : Type 0} (w h a e : ℕ) (xs ys : List A) → a ≤ e → e ≤ h → length xs ≡ h * w → length ys ≡ (e - a) * w
    → pieces w h (put_mid (a * w) (e * w - a * w) xs ys) ≡ take a (pieces w h xs) ++ (pieces w (e - a) ys ++ drop e (pieces w h xs))
pieces_region w h a e xs ys ae eh lx ly =
    let aw : a * w ≤ e * w = mul-le-mul_right w ae in
    let ew : e * w ≤ h * w = mul-le-mul_right w eh in
    let hs : h ≡ a + ((e - a) + (h - e)) = omega arith in
    let lt : length (take (a * w) xs) ≡ a * w = simp length-take (omega arith) in
    let dd : drop (e * w - a * w) (drop (a * w) xs) ≡ drop (e * w) xs = (let s : a * w + (e * w - a * w) ≡ e * w = omega arith in rw (drop-drop, s)) in
    let ah : a ≤ h = omega arith in
    ap (λ n. pieces w n (put_mid (a * w) (e * w - a * w) xs ys)) hs
    ∙ pieces_append w a ((e - a) + (h - e)) (take (a * w) xs) (ys ++ drop (e * w - a * w) (drop (a * w) xs)) lt
    ∙ rw (pieces_append w (e - a) (h - e) ys (drop (e * w - a * w) (drop (a * w) xs)) ly, dd, pieces_take, take_pieces w a h xs ah, drop_pieces w e h xs)

-- m pieces moved up by k, and down by k
pub pieces_up : {A : Type 0} (w m k : ℕ) (mid : List A) (v : A) → length mid ≡ m * w
    → pieces w m (drop (min k m * w) mid ++ replicate (min k m * w) v) ≡ drop k (pieces w m mid) ++ replicate (min k m) (replicate w v)
pieces_up w m k mid v lm =
    let qw : min k m * w ≤ m * w = mul-le-mul_right w (omega arith) in
    let hs : m ≡ (m - min k m) + min k m = omega arith in
    let ld : length (drop (min k m * w) mid) ≡ (m - min k m) * w = rw length-drop (omega (arith, mul-sub w m (min k m), mul_comm w m, mul_comm w (min k m), mul_comm w (m - min k m))) in
    let dm : drop (min k m) (pieces w m mid) ≡ drop k (pieces w m mid) = (let e = drop_min k (pieces w m mid) in rw length_pieces at e) in
    ap (λ n. pieces w n (drop (min k m * w) mid ++ replicate (min k m * w) v)) hs
    ∙ pieces_append w (m - min k m) (min k m) (drop (min k m * w) mid) (replicate (min k m * w) v) ld
    ∙ rw (pieces_replicate, ← drop_pieces w (min k m) m mid, dm)

pub pieces_down : {A : Type 0} (w m k : ℕ) (mid : List A) (v : A) → length mid ≡ m * w
    → pieces w m (replicate (min k m * w) v ++ take ((m - k) * w) mid) ≡ replicate (min k m) (replicate w v) ++ take (m - k) (pieces w m mid)
pieces_down w m k mid v lm =
    let hs : m ≡ min k m + (m - k) = omega arith in
    let mk : m - k ≤ m = omega arith in
    ap (λ n. pieces w n (replicate (min k m * w) v ++ take ((m - k) * w) mid)) hs
    ∙ pieces_append w (min k m) (m - k) (replicate (min k m * w) v) (take ((m - k) * w) mid) (length-replicate _ _)
    ∙ rw (pieces_replicate, pieces_take, take_pieces w (m - k) m mid mk)

take_within : {A : Type 0} (w c m : ℕ) (xs ys : List A) → c + m ≤ w → w ≤ length xs → length ys ≡ m → take w (put_mid c m xs ys) ≡ put_mid c m (take w xs) ys
take_within w c m xs ys cw wl ly = same_lists _ _ (search (rules, places)) (λ k d h. grind (arith, places))

drop_over : {A : Type 0} (w n m : ℕ) (xs ys : List A) → w + n ≤ length xs → drop w (put_mid (w + n) m xs ys) ≡ put_mid n m (drop w xs) ys
drop_over w n m xs ys l =
    let t : w ≤ length (take (w + n) xs) = simp length-take (omega arith) in
    let e : w + n + m ≡ w + (n + m) = omega arith in
    rw drop-append-le (rw drop-take (simp (drop-drop, e)))

-- a part of one piece is another
pub pieces_part : {A : Type 0} (w h r c m : ℕ) (xs ys : List A) → r < h → c + m ≤ w → h * w ≤ length xs → length ys ≡ m
    → pieces w h (put_mid (r * w + c) m xs ys) ≡ set (pieces w h xs) r (put_mid c m (get_or (pieces w h xs) r []) ys)
unfolding pieces
pieces_part w zero r c m xs ys lt cw lx ly = refl
pieces_part w (suc h) zero c m xs ys lt cw lx ly =
    let e : 0 * w + c ≡ c = rw zero-mul (omega arith) in
    let f : suc h * w ≡ w + h * w = suc-mul h w ∙ omega arith in
    let wl : w ≤ length xs = omega arith in
    let cl : c ≤ length xs = omega arith in
    rw e (rw (take_within w c m xs ys cw wl ly, drop-put_mid c m xs ys w cw cl ly))
pieces_part w (suc h) (suc r) c m xs ys lt cw lx ly =
    let f : suc h * w ≡ w + h * w = suc-mul h w ∙ omega arith in
    let g : suc r * w + c ≡ w + (r * w + c) = rw suc-mul (omega arith) in
    let rh : r < h = le_of_suc-le-suc lt in
    let k : suc r * w ≤ h * w = mul-le-mul_right w rh in
    let l : w + (r * w + c) ≤ length xs = omega arith in
    let wl : w ≤ w + (r * w + c) = omega arith in
    let ld : h * w ≤ length (drop w xs) = simp length-drop (omega arith) in
    rw (g, take-put_mid_below (w + (r * w + c)) m xs ys w wl l, drop_over w (r * w + c) m xs ys l)
    (ap (λ t. take w xs ∷ t) (pieces_part w h r c m (drop w xs) ys rh cw ld ly))
