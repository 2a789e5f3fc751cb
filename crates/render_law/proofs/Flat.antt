-- Flat pictures and their rows: the same cells differ, and the same cells are fine.
use Rattle.std.proofs.Common.{◌≡◌, ℕ, zero, suc, ◌+◌, ◌*◌, Bool, true, false, ◌&&◌, eqb, ◌⊎◌, List, [], ◌∷◌, map, length, take, drop, sym, refl, ap, ◌∙◌, subst, inl, inr, suc-mul, zero-mul, arith}
use Rattle.std.proofs.lemmas.List.{length-take, length-drop, take-map, drop-map, take-append-drop, nil_from_length}
use Rattle.std.proofs.lemmas.Bool.{and_parts, eqb-true, eqb-false, eq-eqb, cases_Bool}
use Rattle.meaning.specs.Words.{every}
use Rattle.meaning.specs.Screen.{Cell, same_cell}
use Rattle.meaning.specs.Picture.{differs, row_differs}
use Rattle.meaning.specs.Laws.{fine_cell}
use Rattle.grid.specs.Cells.{packed, unpacked, pieces, rows_of}
use Rattle.grid.proofs.Codes.{packed_unpacked}
use Rattle.render_law.specs.Law.{differing, all_fine}
use Rattle.render_law.proofs.Sequences.{same_style_sound, every_append}

same_cell_sound : (a b : Cell) → same_cell a b ≡ true → a ≡ b
same_cell_sound a b e =
    let p = and_parts (eqb a.sign b.sign) _ e in
    λ i. record { sign = eqb-true a.sign b.sign p.0 i; style = same_style_sound a.style b.style p.1 i }

same_cell_refl : (a : Cell) → same_cell a a ≡ true
same_cell_refl a =
    rw (eq-eqb a.sign a.sign refl, eq-eqb a.style.marks a.style.marks refl, eq-eqb a.style.fore a.style.fore refl) (eq-eqb a.style.back a.style.back refl)

-- a cell is its number
same_cell_is : (x p : ℕ) → same_cell (unpacked x) (unpacked p) ≡ eqb x p
same_cell_is x p = go (cases_Bool (eqb x p)) (cases_Bool (same_cell (unpacked x) (unpacked p)))
  where
    go : (eqb x p ≡ true) ⊎ (eqb x p ≡ false) → (same_cell (unpacked x) (unpacked p) ≡ true) ⊎ (same_cell (unpacked x) (unpacked p) ≡ false)
        → same_cell (unpacked x) (unpacked p) ≡ eqb x p
    go (inl e) _ = ap (λ (y : ℕ). same_cell (unpacked y) (unpacked p)) (eqb-true x p e) ∙ (same_cell_refl (unpacked p) ∙ sym e)
    go (inr e) (inr f) = f ∙ sym e
    go (inr e) (inl f) =
        absurd (eqb-false x p e (sym (packed_unpacked x) ∙ (ap packed (same_cell_sound (unpacked x) (unpacked p) f) ∙ packed_unpacked p)))

row_is : (xs ps : List ℕ) → length xs ≡ length ps → row_differs (map unpacked xs) (map unpacked ps) ≡ differing xs ps
unfolding row_differs differing
row_is [] [] e = refl
row_is [] (p ∷ ps) e = absurd (omega arith)
row_is (x ∷ xs) [] e = absurd (omega arith)
row_is (x ∷ xs) (p ∷ ps) e = rw (same_cell_is x p, row_is xs ps (omega arith))

differing_parts : (w : ℕ) (xs ps : List ℕ) → length xs ≡ length ps → differing xs ps ≡ differing (take w xs) (take w ps) + differing (drop w xs) (drop w ps)
unfolding differing
differing_parts zero xs ps e = omega arith
differing_parts (suc w) [] [] e = refl
differing_parts (suc w) [] (p ∷ ps) e = absurd (omega arith)
differing_parts (suc w) (x ∷ xs) [] e = absurd (omega arith)
differing_parts (suc w) (x ∷ xs) (p ∷ ps) e = let r = differing_parts w xs ps (omega arith) in omega arith

differing_empty : (xs ps : List ℕ) → length xs ≡ 0 → differing xs ps ≡ 0
unfolding differing
differing_empty [] ps e = refl
differing_empty (x ∷ xs) ps e = absurd (omega arith)

pub differs_rows : (w h : ℕ) (xs ps : List ℕ) → length xs ≡ h * w → length ps ≡ h * w → differs (rows_of w h xs) (rows_of w h ps) ≡ differing xs ps
unfolding rows_of pieces differs
differs_rows w zero xs ps n m = sym (differing_empty xs ps (n ∙ zero-mul w))
differs_rows w (suc h) xs ps n m =
    let f : suc h * w ≡ w + h * w = suc-mul h w ∙ omega arith in
    let a : length (take w xs) ≡ length (take w ps) = simp length-take (omega arith) in
    let b : length (drop w xs) ≡ h * w = simp length-drop (omega arith) in
    let c : length (drop w ps) ≡ h * w = simp length-drop (omega arith) in
    let d = differs_rows w h (drop w xs) (drop w ps) b c in
    rw (take-map unpacked w xs, take-map unpacked w ps, drop-map unpacked w xs, drop-map unpacked w ps, row_is (take w xs) (take w ps) a)
    (ap (λ (k : ℕ). differing (take w xs) (take w ps) + k) d ∙ sym (differing_parts w xs ps (n ∙ sym m)))

every_map : {A B : Type 0} (f : B → Bool) (g : A → B) (xs : List A) → every f (map g xs) ≡ every (λ x. f (g x)) xs
every_map f g [] = refl
every_map f g (x ∷ xs) = ap (λ (b : Bool). f (g x) && b) (every_map f g xs)

pub fine_rows : (w h : ℕ) (xs : List ℕ) → length xs ≡ h * w → every (λ r. every fine_cell r) (rows_of w h xs) ≡ true → all_fine xs ≡ true
unfolding rows_of pieces
fine_rows w zero xs n e = rw (nil_from_length xs (n ∙ zero-mul w))
fine_rows w (suc h) xs n e =
    let f : suc h * w ≡ w + h * w = suc-mul h w ∙ omega arith in
    let b : length (drop w xs) ≡ h * w = simp length-drop (omega arith) in
    let p = and_parts (every fine_cell (take w (map unpacked xs))) _ e in
    let t : all_fine (take w xs) ≡ true = sym (every_map fine_cell unpacked (take w xs)) ∙ (ap (every fine_cell) (sym (take-map unpacked w xs)) ∙ p.0) in
    let u = fine_rows w h (drop w xs) b (subst (λ (ys : List Cell). every (λ r. every fine_cell r) (pieces w h ys) ≡ true) (drop-map unpacked w xs) p.1) in
    subst (λ (ys : List ℕ). all_fine ys ≡ true) (take-append-drop w xs) (every_append _ (take w xs) (drop w xs) t u)
