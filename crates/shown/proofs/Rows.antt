-- The text of a row, and of rows, as loops come to it.
use Rattle.std.proofs.Common.{◌≡◌, ℕ, zero, suc, ◌+◌, ◌*◌, ◌<◌, ◌≤◌, true, false, ◌&&◌, eqb, List, [], ◌∷◌, ◌++◌, map, length, get_or, take, drop, sym, refl, ap, ◌∙◌, append_assoc, append-nil, suc-mul, arith, ◌≢◌}
use Rattle.std.proofs.lemmas.List.{map_more, map_push, length-map, length-take, length-drop, length-append, take_all, take_at, take_more, take-map, drop-map, drop_at, drop-drop}
use Rattle.std.proofs.Math.Nat.{lt_of_mul-lt-mul_right}
use Rattle.std.proofs.lemmas.Bool.{ne_eqb}
use Rattle.meaning.specs.Words.{pick, flat}
use Rattle.grid.specs.Cells.{unpacked, rows_of}
use Rattle.grid.proofs.Pieces.{getD_pieces}
use Rattle.grid.proofs.Regions.{length_rows}
use Rattle.output.specs.Added.{Adds}
use Rattle.output.specs.declared.Buffer.{Buffer}
use Rattle.output.proofs.Adding.{both, room_left}
use Rattle.shown.specs.Text.{shown_sign, row_text, row_line, rows_text}

-- a row ends behind its last cell that is no blank
pub text_ends : (xs : List ℕ) (n : ℕ) → n ≤ length xs → ((k : ℕ) → n ≤ k → k < length xs → (unpacked (get_or xs k 0)).sign ≡ 32)
    → ((k : ℕ) → k + 1 ≡ n → (unpacked (get_or xs k 0)).sign ≢ 32) → row_text (map unpacked xs) ≡ map shown_sign (map unpacked (take n xs))
unfolding row_text
text_ends [] zero l h last = refl
text_ends [] (suc n) l h last = absurd (omega arith)
text_ends (x ∷ xs) zero l h last =
    let e = text_ends xs zero (omega arith) (λ k a b. h (suc k) (omega arith) (omega arith)) (λ k a. absurd (omega arith)) in
    let b : (unpacked x).sign ≡ 32 = h 0 (omega arith) (omega arith) in rw (b, e)
text_ends (x ∷ xs) (suc zero) l h last =
    let e = text_ends xs zero (omega arith) (λ k a b. h (suc k) (omega arith) (omega arith)) (λ k a. absurd (omega arith)) in
    rw (e, ne_eqb (unpacked x).sign 32 (last 0 (omega arith)))
text_ends (x ∷ []) (suc (suc n)) l h last = absurd (omega arith)
text_ends (x ∷ (y ∷ xs)) (suc (suc n)) l h last =
    let e = text_ends (y ∷ xs) (suc n) (omega arith) (λ k a b. h (suc k) (omega arith) (omega arith)) (λ k a. last (suc k) (omega arith)) in
    rw e (elim (eqb (unpacked x).sign 32) as (λ b. pick (b && false) [] (shown_sign (unpacked x) ∷ map shown_sign (map unpacked (take (suc n) (y ∷ xs)))) ≡ map shown_sign (map unpacked (take (suc (suc n)) (x ∷ (y ∷ xs))))) [ true ↦ refl | false ↦ refl ])

-- the bytes of cells one by one
abbrev pub signs : List ℕ → List ℕ
signs xs = map shown_sign (map unpacked xs)

pub length_signs : (xs : List ℕ) → length (signs xs) ≡ length xs
length_signs xs = length-map (map unpacked xs) shown_sign ∙ length-map xs unpacked

pub signs_room : {x y : Buffer} (xs : List ℕ) (i : ℕ) → Adds x y (signs (take i xs)) → x.len + length xs ≤ length x.bytes.now → i < length xs → y.len < length y.bytes.now
signs_room xs i a l h =
    let e : length (signs (take i xs)) ≡ i = length_signs (take i xs) ∙ (length-take i xs ∙ omega arith) in
    let r = room_left 1 a (omega arith) in omega arith

pub signs_more : {x y z : Buffer} {b : ℕ} (xs : List ℕ) (i : ℕ) → Adds x y (signs (take i xs)) → i < length xs → b ≡ shown_sign (unpacked (get_or xs i 0)) → Adds y z (b ∷ [])
    → Adds x z (signs (take (i + 1) xs))
signs_more {x} {y} {z} {b} xs i p l e q =
    let m : signs (take (i + 1) xs) ≡ signs (take i xs) ++ b ∷ [] = ap (map shown_sign) (map_more unpacked xs i 0 l) ∙ (map_push shown_sign (map unpacked (take i xs)) (unpacked (get_or xs i 0)) ∙ rw e) in
    rw m (both p q)

pub signs_end : {x y : Buffer} (xs : List ℕ) {n : ℕ} → Adds x y (signs (take n xs)) → n ≤ length xs → x.len + length xs + 1 ≤ length x.bytes.now → y.len < length y.bytes.now
signs_end xs {n} a l h =
    let e : length (signs (take n xs)) ≡ n = length_signs (take n xs) ∙ (length-take n xs ∙ omega arith) in
    let r = room_left 1 a (omega arith) in omega arith

flat_push : {A B : Type 0} (f : A → List B) (xs : List A) (x : A) → flat f (xs ++ x ∷ []) ≡ flat f xs ++ f x
flat_push f [] x = append-nil (f x)
flat_push f (y ∷ ys) x = ap (λ t. f y ++ t) (flat_push f ys x) ∙ sym (append_assoc (f y) (flat f ys) (f x))

-- row k of a screen's cells
pub row_part : (w h k : ℕ) (xs : List ℕ) → k < h → get_or (rows_of w h xs) k [] ≡ map unpacked (take w (drop (k * w) xs))
unfolding rows_of
row_part w h k xs l = getD_pieces w h k (map unpacked xs) l ∙ rw (drop-map unpacked (k * w) xs, take-map unpacked w (drop (k * w) xs))

-- k rows of a screen have been written, and `rest` is left of its cells
pub record RowsSoFar (w h : ℕ) (cells : List ℕ) (x y : Buffer) (k size : ℕ) (rest : List ℕ) : Type 0 where
  pub added : Adds x y (rows_text (take k (rows_of w h cells)))
  pub most : y.len ≤ x.len + 201 * k
  pub left : rest ≡ drop (k * w) cells
  pub exact : size ≡ w
  pub within : k ≤ h

module _ {w h k size : ℕ} {cells rest : List ℕ} {x y : Buffer} (r : RowsSoFar w h cells x y k size rest) (some : 0 < w) (whole : length cells ≡ h * w) where
  row_left : size ≤ length rest → k < h
  row_left l = let e = r.exact in let d = rw r.left at l in lt_of_mul-lt-mul_right w (let z = length-drop (k * w) cells in omega arith)

  pub rows_more : {z : Buffer} {size₁ : ℕ} {rest₁ : List ℕ} (row : List ℕ) → rest ≡ row ++ rest₁ → length row ≡ size → size₁ ≡ size → w ≤ 200 → Adds y z (row_line (map unpacked row)) → z.len ≤ y.len + length row + 1
      → RowsSoFar w h cells x z (k + 1) size₁ rest₁
  rows_more {z} {size₁} {rest₁} row e n s m a o =
      let nw : length row ≡ w = n ∙ r.exact in
      let room : size ≤ length rest = let g = ap length e ∙ length-append row rest₁ in omega arith in
      let q = row_left room in
      let d : drop (k * w) cells ≡ row ++ rest₁ = sym r.left ∙ e in
      let here : take w (drop (k * w) cells) ≡ row = ap (take w) d ∙ take_at row rest₁ w nw in
      let part = row_part w h k cells q ∙ ap (map unpacked) here in
      let t = ap rows_text (take_more (rows_of w h cells) k [] (rw length_rows q)) ∙ flat_push row_line (take k (rows_of w h cells)) (get_or (rows_of w h cells) k []) in
      record {
        added = rw (t, part) (both r.added a);
        most = let u = r.most in omega arith;
        left = sym (drop_at row rest₁ w nw) ∙ (ap (drop w) (sym d) ∙ (drop-drop w (k * w) cells ∙ ap (λ i. drop i cells) (omega (arith, suc-mul k w))));
        exact = s ∙ r.exact;
        within = omega arith;
      }

  -- where no row is left all have been written
  pub rows_all : length rest < size → Adds x y (rows_text (rows_of w h cells))
  rows_all l =
      let e = r.exact in
      let d = rw r.left at l in
      let q : h < suc k = lt_of_mul-lt-mul_right w (rw (suc-mul k w) (let z = length-drop (k * w) cells in omega arith)) in
      rw (take_all k (rows_of w h cells) (rw length_rows (omega arith))) at r.added
