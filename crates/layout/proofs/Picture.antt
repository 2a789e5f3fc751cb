-- The picture of one window with one pane: the pane's rows brought to the room's size, above the status line.
use Rattle.std.proofs.Common.{◌≡◌, add-one, ℕ, zero, suc, ◌+◌, ◌-◌, ◌*◌, ◌<◌, ◌≤◌, Bool, true, List, [], ◌∷◌, ◌++◌, map, length, take, sym, refl, ap, ◌∙◌, append_assoc, le_of_suc-le-suc, not-suc-le-zero, suc-mul, arith, rules}
use Rattle.layout.proofs.Signs.{filled_up}
use Rattle.std.proofs.lemmas.List.{drop_at, replicate-append-replicate, map-append, take-map, length-map, length-take, length-append, length-replicate, take_all, set_at, same_lists, places}
use Rattle.std.proofs.lemmas.Bool.{eq-eqb, and_from}
use Rattle.meaning.specs.Words.{so_many, put_at}
use Rattle.meaning.specs.Screen.{Cell, Term, blank_row, row_at, fitted_row}
use Rattle.meaning.specs.Bytes.{digits}
use Rattle.meaning.specs.Panes.{places as places_of, window_at, rect}
use Rattle.meaning.specs.Picture.{Rows, picture, put_row, put_rows, cut, last_row, draw_places, draw_lines, window_signs}
use Rattle.grid.specs.Cells.{rows_of, cells_of, pieces, unpacked}
use Rattle.grid.specs.Edits.{rows_fitted}
use Rattle.grid.proofs.Codes.{cells_of_rows}
use Rattle.grid.proofs.Pieces.{pieces_append}
use Rattle.layout.specs.Window.{one_pane, status_row, Pictured}

row_mid : (pre : Rows) (x : List Cell) (post : Rows) → row_at (pre ++ (x ∷ post)) (length pre) ≡ x
row_mid pre x post = rw (drop_at pre (x ∷ post) (length pre) refl)

-- rows put over the first of n rows that are all b
put_rows_over : (b : List Cell) (n : ℕ) (cs pre post : Rows) → length cs ≤ n
    → put_rows 0 (length pre) cs (pre ++ (so_many n b ++ post)) ≡ pre ++ (map (λ c. put_row 0 c b) cs ++ (so_many (n - length cs) b ++ post))
unfolding put_rows
put_rows_over b n [] pre post l = let z : n - 0 ≡ n = omega arith in rw z
put_rows_over b zero (c ∷ cs) pre post l = absurd (not-suc-le-zero l)
put_rows_over b (suc n) (c ∷ cs) pre post l =
    let rest : Rows = so_many n b ++ post in
    let row : List Cell = put_row 0 c b in
    let m : suc (length pre) ≡ length (pre ++ (row ∷ [])) = (let z = length-append pre (row ∷ []) in omega arith) in
    let k : n - length cs ≡ suc n - suc (length cs) = omega arith in
    rw (row_mid pre b rest, set_at pre b rest row (length pre) refl, ← append_assoc pre (row ∷ []) rest, m, put_rows_over b n cs (pre ++ (row ∷ [])) post (le_of_suc-le-suc l), append_assoc pre (row ∷ []), k)

-- a row that is cut and put over a blank one is that row fitted
cut_row : (w : ℕ) (r : List Cell) → put_row 0 (take w r) (blank_row w) ≡ fitted_row w r
cut_row w r = same_lists _ _ (search (rules, places)) (λ k d h. grind (arith, places))

cut_rows : (w : ℕ) (rs : Rows) → map (λ c. put_row 0 c (blank_row w)) (map (take w) rs) ≡ map (fitted_row w) rs
cut_rows w [] = refl
cut_rows w (r ∷ rs) = rw (cut_row w r, cut_rows w rs)

-- the pane cut to h rows of w columns, on blank rows
cut_fitted : (w h : ℕ) (rs : Rows)
    → map (λ c. put_row 0 c (blank_row w)) (map (take w) (take h rs)) ++ so_many (h - length (map (take w) (take h rs))) (blank_row w) ≡ rows_fitted w h 0 rs
cut_fitted w h rs =
    let n : h - length (map (take w) (take h rs)) ≡ h - length (map (fitted_row w) rs) = simp (length-map, length-take) (omega arith) in
    rw (n, cut_rows w (take h rs), ← take-map) (filled_up h (map (fitted_row w) rs) (blank_row w))

blanks_above : (b : List Cell) (h : ℕ) → so_many (suc h) b ≡ so_many h b ++ (b ∷ [])
blanks_above b h = sym (rw add-one at (replicate-append-replicate h 1 b))

length_fitted : (w h : ℕ) (rs : Rows) → length (rows_fitted w h 0 rs) ≡ h
length_fitted w h rs = simp (length-take, length-append, length-replicate) (omega arith)

picture_parts : (w h i n : ℕ) (t : Term) (p : Bool)
    → picture (one_pane w h i t n p) ≡ put_at (put_rows 0 0 (cut (rect 0 0 w (h - 1)) t) (so_many h (blank_row w))) (h - 1) (last_row (one_pane w h i t n p))
unfolding picture draw_places draw_lines places_of window_at
picture_parts w h i n t p = simp (eq-eqb i i refl)

last_row_one : (w h i n : ℕ) (t : Term) (p : Bool) → last_row (one_pane w h i t n p) ≡ status_row w
unfolding window_signs digits
last_row_one w h i n t p = refl

-- the pane's rows put on a blank screen
rows_put : (w h : ℕ) (rs : Rows) → put_rows 0 0 (map (take w) (take h rs)) (so_many (suc h) (blank_row w)) ≡ rows_fitted w h 0 rs ++ (blank_row w ∷ [])
rows_put w h rs =
    let cs : Rows = map (take w) (take h rs) in
    let l : length cs ≤ h = simp (length-map, length-take) (omega arith) in
    let e : put_rows 0 0 cs (so_many h (blank_row w) ++ (blank_row w ∷ [])) ≡ map (λ c. put_row 0 c (blank_row w)) cs ++ (so_many (h - length cs) (blank_row w) ++ (blank_row w ∷ [])) =
    put_rows_over (blank_row w) h cs [] (blank_row w ∷ []) l in
    rw (blanks_above (blank_row w) h, e, ← append_assoc, cut_fitted w h rs)

pub picture_is : (w h i n : ℕ) (t : Term) (p : Bool) → picture (one_pane w (suc h) i t n p) ≡ rows_fitted w h 0 t.rows ++ (status_row w ∷ [])
picture_is w h i n t p =
    let k : suc h - 1 ≡ h = omega arith in
    picture_parts w (suc h) i n t p ∙ rw (last_row_one w (suc h) i n t p, k, rows_put w h t.rows) (set_at (rows_fitted w h 0 t.rows) (blank_row w) [] (status_row w) h (length_fitted w h t.rows))

-- flat: the rows and one more
rows_one_more : (w h : ℕ) (ys st : List ℕ) → length ys ≡ h * w → length st ≡ w → rows_of w (suc h) (ys ++ st) ≡ rows_of w h ys ++ (map unpacked st ∷ [])
unfolding rows_of pieces
rows_one_more w h ys st ly ls =
    let lm : length (map unpacked ys) ≡ h * w = length-map ys unpacked ∙ ly in
    let lt : take w (map unpacked st) ≡ map unpacked st = take_all w (map unpacked st) (let z = length-map st unpacked in omega arith) in
    rw map-append ((rw add-one at (pieces_append w h 1 (map unpacked ys) (map unpacked st) lm)) ∙ rw lt)

-- what stands there then is the picture
picture_drawn : (w h : ℕ) (ys st : List ℕ) (rs : Rows) → 0 < h → length ys ≡ (h - 1) * w → length st ≡ w
    → rows_of w (h - 1) ys ≡ rows_fitted w (h - 1) 0 rs → map unpacked st ≡ status_row (length st)
    → (i n : ℕ) (t : Term) (p : Bool) → t.rows ≡ rs → rows_of w h (ys ++ st) ≡ picture (one_pane w h i t n p)
picture_drawn w zero ys st rs hp ly ls er es i n t p et = absurd (not-suc-le-zero hp)
picture_drawn w (suc h) ys st rs hp ly ls er es i n t p et =
    let k : suc h - 1 ≡ h = omega arith in
    let above = rw k at er in
    rw (rows_one_more w h ys st (rw k at ly) ls, above, es, ls, picture_is w h i n t p, et)

-- a screen of one row has no room for a pane
pub no_rows : (w h : ℕ) (xs : List ℕ) (rs : Rows) → h ≡ 0 → rows_of w h xs ≡ rows_fitted w h 0 rs
unfolding rows_of pieces
no_rows w h xs rs e = rw e

-- what draw_pane leaves: ys are the room's cells and st the last row
pub pictured : (w h v u : ℕ) (xs ys st cs : List ℕ) → 0 < h → length xs ≡ h * w → length cs ≡ u * v → length ys ≡ (h - 1) * w → length st + (h - 1) * w ≡ h * w
    → rows_of w (h - 1) ys ≡ rows_fitted w (h - 1) 0 (rows_of v u cs) → map unpacked st ≡ status_row (length st) → Pictured w h xs (ys ++ st) v u cs true
pictured w h v u xs ys st cs hp lx lc ly ls er es =
    let hw : h * w ≡ (h - 1) * w + w = (let y : suc (h - 1) ≡ h = omega arith in sym (ap (λ (k : ℕ). k * w) y) ∙ suc-mul (h - 1) w) in
    let r = picture_drawn w h ys st (rows_of v u cs) hp ly (omega arith) er es in
    let l : length (ys ++ st) ≡ h * w = simp length-append (omega arith) in
    record {
      told = sym (and_from _ _ (eq-eqb _ _ lx) (eq-eqb _ _ lc));
      rows = λ _. r;
      numbers = λ _ i n t p e. sym (cells_of_rows w h (ys ++ st) l) ∙ ap cells_of (r i n t p e);
      kept = λ e. absurd (search rules);
    }
