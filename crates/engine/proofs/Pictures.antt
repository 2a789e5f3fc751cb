-- The picture of any glass, with any layouts: as wide as the screen, in cells that can be drawn; and its cursor is on it.
use Rattle.std.proofs.Common.{◌≡◌, ℕ, zero, suc, ◌+◌, ◌-◌, ◌*◌, ◌^◌, ◌<◌, ◌≤◌, min, Bool, true, false, ◌&&◌, eqb, ltb, leb, List, [], ◌∷◌, ◌++◌, map, length, take, drop, sym, refl, ap, ◌∙◌, inl, inr, arith, length-append, length-drop, length-take}
use lib.ListN.{length-replicate}
use Rattle.std.specs.List.{AllByRecursion}
use Rattle.std.proofs.ByRecursion.{All-append, All-take, All-drop, All-weaker}
use Rattle.std.proofs.lemmas.Bool.{cases_eq, cond_both, and_parts, and_from, ltb-true, leb-true, lt-ltb}
use Rattle.std.proofs.lemmas.Bool.Decides.{nat_tests}
use Rattle.meaning.specs.Words.{pick, every, so_many, put_at, each, those}
use Rattle.meaning.specs.Screen.{Cell, Term, blank_row, blank, row_at}
use Rattle.meaning.specs.Bytes.{digits, in_digits}
use Rattle.meaning.specs.Panes.{Glass, Window, Layout, pane, beside, above, Rect, Place, Pane, places, half, left_of, right_of, upper_of, lower_of, room, current, pane_of, place_of_focus}
use Rattle.meaning.specs.Picture.{Rows, put_row, put_rows, draw_one, draw_places, draw_lines, sign, turned, window_signs, last_row, picture, Spot, nowhere, spot, spot_in, spot_of}
use Rattle.meaning.specs.Laws.{fine_cell, colour}
use Rattle.meaning.proofs.Sound.{Sound, AsWide}
use Rattle.meaning.proofs.Edits.{decides_every, all_replicate}
use Rattle.meaning.proofs.Drawable.{Fine, FineRow}
use Rattle.meaning.proofs.Large.{picture_large}
use Rattle.grid.specs.Cells.{packed, rows_of, cells_of}
use Rattle.render_law.proofs.Law.{writer_law}
use Rattle.render_law.proofs.Rows.{rows_of_cells, length_cells}
use Rattle.engine.proofs.Machine.{Pictured}
use Rattle.engine.proofs.Areas.{every_append}
use Rattle.engine.proofs.Core.{One, one_glass}

-- a place lies within another, as far as it has room at all; one with no room may stick out by its edge
pub record In (r s : Rect) : Type 0 where
  pub right : 0 < r.wide → r.x + r.wide ≤ s.x + s.wide
  pub down : 0 < r.high → r.y + r.high ≤ s.y + s.high

pub in_self : (r : Rect) → In r r
in_self r = record { right = λ h. omega arith; down = λ h. omega arith }

in_left : (r s : Rect) → In r s → In (left_of r) s
in_left r s i = record { right = λ h. (let z = i.right (omega arith) in omega arith); down = i.down }

in_right : (r s : Rect) → In r s → In (right_of r) s
in_right r s i = record { right = λ h. (let z = i.right (omega arith) in omega arith); down = i.down }

in-upper : (r s : Rect) → In r s → In (upper_of r) s
in-upper r s i = record { right = i.right; down = λ h. (let z = i.down (omega arith) in omega arith) }

in-lower : (r s : Rect) → In r s → In (lower_of r) s
in-lower r s i = record { right = i.right; down = λ h. (let z = i.down (omega arith) in omega arith) }

pub places_in : (l : Layout) (r s : Rect) → In r s → AllByRecursion (λ q. In q.rect s) (places l r)
unfolding places
places_in (pane i) r s h = (h, tt)
places_in (beside a b) r s h = All-append (λ q. In q.rect s) _ _ (places_in a (left_of r) s (in_left r s h)) (places_in b (right_of r) s (in_right r s h))
places_in (above a b) r s h = All-append (λ q. In q.rect s) _ _ (places_in a (upper_of r) s (in-upper r s h)) (places_in b (lower_of r) s (in-lower r s h))

-- ROWS STAY AS WIDE AS THEY ARE, AND CELLS AS FINE
-- what is asked of a row that is put, at most n wide; and of rows it is put into
pub record RowOk (w : ℕ) (r : List Cell) : Type 0 where
  pub wide : length r ≡ w
  pub fine : FineRow r

pub record PartOk (n : ℕ) (r : List Cell) : Type 0 where
  pub most : length r ≤ n
  pub fine : FineRow r

put_row_ok : (w x n : ℕ) (c r : List Cell) → PartOk n c → (0 < n → x + n ≤ w) → RowOk w r → RowOk w (put_row x c r)
put_row_ok w x n c r p k o =
    let P : Cell → Type 0 = λ c. fine_cell c ≡ true in
    let l = o.wide in
    let m = p.most in
    let a = length-append (take x r) c in
    let b = length-append (take x r ++ c) (drop (x + length c) r) in
    let d = length-take x r in
    let e = length-drop (x + length c) r in
    record {
      wide = long n k m a b d e;
      fine = All-append P (take x r ++ c) _ (All-append P (take x r) c (All-take P x r o.fine) p.fine) (All-drop P (x + length c) r o.fine);
    }
  where
    long : (n : ℕ) → (0 < n → x + n ≤ w) → length c ≤ n → length (take x r ++ c) ≡ length (take x r) + length c
        → length ((take x r ++ c) ++ drop (x + length c) r) ≡ length (take x r ++ c) + length (drop (x + length c) r)
        → length (take x r) ≡ min x (length r) → length (drop (x + length c) r) ≡ length r - (x + length c) → length ((take x r ++ c) ++ drop (x + length c) r) ≡ w
    long zero k m a b d e = let l = o.wide in omega arith
    long (suc n) k m a b d e = let l = o.wide in let z = k (omega arith) in omega arith

row_ok_at : (w : ℕ) (rs : Rows) (y : ℕ) (f : List Cell → List Cell) → ((r : List Cell) → RowOk w r → RowOk w (f r)) → AllByRecursion (RowOk w) rs → AllByRecursion (RowOk w) (put_at rs y (f (row_at rs y)))
row_ok_at w [] y f h l = tt
row_ok_at w (r ∷ rs) zero f h l = (h r l.0, l.1)
row_ok_at w (r ∷ rs) (suc y) f h l = (l.0, row_ok_at w rs y f h l.1)

pub put_rows_ok : (w n x y : ℕ) (cs rs : Rows) → AllByRecursion (PartOk n) cs → (0 < n → x + n ≤ w) → AllByRecursion (RowOk w) rs → AllByRecursion (RowOk w) (put_rows x y cs rs)
unfolding put_rows
put_rows_ok w n x y [] rs m k l = l
put_rows_ok w n x y (c ∷ cs) rs m k l = put_rows_ok w n x (suc y) cs _ m.1 k (row_ok_at w rs y (put_row x c) (λ r o. put_row_ok w x n c r m.0 k o) l)

-- as much of a pane as there is room for
cut_ok : (n : ℕ) (rs : Rows) → AllByRecursion FineRow rs → AllByRecursion (PartOk n) (each (take n) rs)
cut_ok n [] f = tt
cut_ok n (r ∷ rs) f = (record { most = (let z = length-take n r in omega arith); fine = All-take (λ c. fine_cell c ≡ true) n r f.0 }, cut_ok n rs f.1)

one_ok : (s : Rect) (q : Place) (ps : List Pane) (rs : Rows) → s.x ≡ 0 → In q.rect s → AllByRecursion (λ p. Fine p.term) ps → AllByRecursion (RowOk s.wide) rs → AllByRecursion (RowOk s.wide) (draw_one q ps rs)
one_ok s q [] rs z i f l = l
one_ok s q (p ∷ ps) rs z i f l =
    put_rows_ok s.wide q.rect.wide q.rect.x q.rect.y _ rs (cut_ok q.rect.wide _ (All-take FineRow q.rect.high p.term.rows f.0.cells)) (λ h. let y = i.right h in omega arith) l

those_fine : (b : Pane → Bool) (ps : List Pane) → AllByRecursion (λ p. Fine p.term) ps → AllByRecursion (λ p. Fine p.term) (those b ps)
those_fine b [] f = tt
those_fine b (p ∷ ps) f = go (b p) (those_fine b ps f.1)
  where
    go : (c : Bool) → AllByRecursion (λ p. Fine p.term) (those b ps) → AllByRecursion (λ p. Fine p.term) (pick c (p ∷ those b ps) (those b ps))
    go true later = (f.0, later)
    go false later = later

pub places_ok : (g : Glass) (qs : List Place) (s : Rect) (rs : Rows) → AllByRecursion (λ q. In q.rect s) qs → s.x ≡ 0 → AllByRecursion (λ p. Fine p.term) g.panes → AllByRecursion (RowOk s.wide) rs
    → AllByRecursion (RowOk s.wide) (draw_places g qs rs)
unfolding draw_places
places_ok g [] s rs a z f l = l
places_ok g (q ∷ qs) s rs a z f l = places_ok g qs s _ a.1 z f (one_ok s q (pane_of g q.id) rs z a.0 (those_fine _ g.panes f) l)

-- the lines between
column_ok : (h : ℕ) → AllByRecursion (PartOk 1) (so_many h (sign 124 ∷ []))
column_ok h = all_replicate (PartOk 1) h (sign 124 ∷ []) (record { most = omega arith; fine = (refl, tt) })

line_ok : (n : ℕ) → PartOk n (so_many n (sign 45))
line_ok n = record { most = (let z = length-replicate n (sign 45) in omega arith); fine = all_replicate (λ c. fine_cell c ≡ true) n (sign 45) refl }

pub lines_ok : (l : Layout) (r s : Rect) (rs : Rows) → In r s → s.x ≡ 0 → AllByRecursion (RowOk s.wide) rs → AllByRecursion (RowOk s.wide) (draw_lines l r rs)
unfolding draw_lines
lines_ok (pane i) r s rs h z o = o
lines_ok (beside a b) r s rs h z o =
    lines_ok b (right_of r) s _ (in_right r s h) z (lines_ok a (left_of r) s _ (in_left r s h) z
    (cond_both (ltb 0 r.wide) _ rs (AllByRecursion (RowOk s.wide))
    (λ e. put_rows_ok s.wide 1 (r.x + half r.wide) r.y _ rs (column_ok r.high) (λ _. let p = ltb-true 0 r.wide e in let y = h.right p in omega arith) o) (λ _. o)))
lines_ok (above a b) r s rs h z o =
    lines_ok b (lower_of r) s _ (in-lower r s h) z (lines_ok a (upper_of r) s _ (in-upper r s h) z
    (cond_both (ltb 0 r.high) _ rs (AllByRecursion (RowOk s.wide))
    (λ _. put_rows_ok s.wide r.wide r.x (r.y + half r.high) _ rs (line_ok r.wide, tt) (λ k. let y = h.right k in omega arith) o) (λ _. o)))

-- THE STATUS LINE, for at most ten windows
abbrev all_below : (ℕ → Bool) → ℕ → Bool
all_below p zero = true
all_below p (suc n) = p n && all_below p n

below_one : (p : ℕ → Bool) (n : ℕ) → all_below p n ≡ true → (k : ℕ) → k < n → p k ≡ true
below_one p zero e k h = absurd (omega arith)
below_one p (suc n) e k h = let a = and_parts (p n) _ e in elim (cases_eq k n) [ inl q ↦ ap p q ∙ a.0 | inr q ↦ below_one p n a.1 k (omega arith) ]

TurnedFine : List ℕ → Type 0
TurnedFine cs = AllByRecursion (λ c. fine_cell c ≡ true) (each turned cs)

digit_fine : (k : ℕ) → k < 10 → TurnedFine (in_digits k)
unfolding TurnedFine digits
digit_fine k h = (decides_every fine_cell (λ c. fine_cell c ≡ true) (λ c. (λ e. e, λ e. e)) (each turned (in_digits k))).0 (below_one (λ j. every fine_cell (each turned (in_digits j))) 10 refl k h)

turned_append : (cs ds : List ℕ) → TurnedFine cs → TurnedFine ds → TurnedFine (cs ++ ds)
unfolding TurnedFine
turned_append [] ds a b = b
turned_append (c ∷ cs) ds a b = (a.0, turned_append cs ds a.1 b)

star_fine : (b : Bool) → fine_cell (turned (pick b 42 32)) ≡ true
star_fine true = refl
star_fine false = refl

signs_fine : (at k : ℕ) (vs : List Window) → k + length vs ≤ 10 → TurnedFine (window_signs at k vs)
unfolding TurnedFine window_signs
signs_fine at k [] h = tt
signs_fine at k (v ∷ vs) h = (refl, turned_append (in_digits k) _ (digit_fine k (omega arith)) (star_fine (eqb at k), signs_fine at (suc k) vs (omega arith)))

status_ok : (g : Glass) → length g.windows ≤ 10 → RowOk g.wide (last_row g)
unfolding TurnedFine
status_ok g h =
    let P : Cell → Type 0 = λ c. fine_cell c ≡ true in
    let ts = each turned (window_signs g.at 0 g.windows) in
    let a = length-append ts (so_many g.wide (turned 32)) in
    let b = length-replicate g.wide (turned 32) in
    record {
      wide = length-take g.wide (ts ++ so_many g.wide (turned 32)) ∙ omega arith;
      fine = All-take P g.wide _ (All-append P ts (so_many g.wide (turned 32)) (signs_fine g.at 0 g.windows (omega arith)) (all_replicate P g.wide (turned 32) refl));
    }

-- THE PICTURE
pub record GlassOk (g : Glass) : Type 0 where
  pub some_wide : 0 < g.wide
  pub wide : g.wide ≤ 200
  pub some_high : 0 < g.high
  pub high : g.high ≤ 60
  pub few : length g.windows ≤ 10
  pub fine : AllByRecursion (λ p. Fine p.term) g.panes

blank_ok : (w : ℕ) → RowOk w (blank_row w)
blank_ok w = record { wide = length-replicate w blank; fine = all_replicate (λ c. fine_cell c ≡ true) w blank refl }

put_ok : (w : ℕ) (rs : Rows) (y : ℕ) (r : List Cell) → RowOk w r → AllByRecursion (RowOk w) rs → AllByRecursion (RowOk w) (put_at rs y r)
put_ok w [] y r o l = tt
put_ok w (x ∷ rs) zero r o l = (o, l.1)
put_ok w (x ∷ rs) (suc y) r o l = (l.0, put_ok w rs y r o l.1)

pub picture_ok : (g : Glass) → GlassOk g → AllByRecursion (RowOk g.wide) (picture g)
unfolding picture
picture_ok g o =
    put_ok g.wide _ (g.high - 1) (last_row g) (status_ok g o.few)
    (places_ok g _ (room g) _ (places_in (current g).layout (room g) (room g) (in_self (room g))) refl o.fine
    (lines_ok (current g).layout (room g) (room g) _ (in_self (room g)) refl (all_replicate (RowOk g.wide) g.high (blank_row g.wide) (blank_ok g.wide))))

-- THE CURSOR
those_in : (s : Rect) (b : Place → Bool) (qs : List Place) → AllByRecursion (λ q. In q.rect s) qs → AllByRecursion (λ q. In q.rect s) (those b qs)
those_in s b [] f = tt
those_in s b (q ∷ qs) f = go (b q) (those_in s b qs f.1)
  where
    go : (c : Bool) → AllByRecursion (λ q. In q.rect s) (those b qs) → AllByRecursion (λ q. In q.rect s) (pick c (q ∷ those b qs) (those b qs))
    go true later = (f.0, later)
    go false later = later

SeenOn : Rect → Spot → Type 0
SeenOn s z = z.shown ≡ true → (z.row < s.y + s.high) × (z.col < s.x + s.wide)

unseen : (s : Rect) → SeenOn s nowhere
unfolding SeenOn
unseen s e = absurd (let z : ◌≡◌ {A = ℕ} 0 1 = cc in omega arith)

spot_in_ok : (s r : Rect) (t : Term) → In r s → SeenOn s (spot_in r t)
unfolding SeenOn
spot_in_ok s r t i =
    cond_both (t.shown && (ltb t.row r.high && ltb t.col r.wide)) _ _ (SeenOn s)
    (λ e _. let a = and_parts t.shown _ e in
    let b = and_parts (ltb t.row r.high) _ a.1 in
    let x = ltb-true _ _ b.0 in
    let y = ltb-true _ _ b.1 in
    let p = i.down (omega arith) in
    let q = i.right (omega arith) in
    (omega arith, omega arith))
    (λ _. unseen s)

pub spot_on : (g : Glass) → 0 < g.high → (spot g).shown ≡ true → ((spot g).row < g.high) × ((spot g).col < g.wide)
unfolding spot SeenOn
spot_on g h e =
    let z = go (place_of_focus g) (pane_of g (current g).focus) (those_in (room g) _ _ (places_in (current g).layout (room g) (room g) (in_self (room g)))) e in
    (let a = z.0 in omega arith, let a = z.1 in omega arith)
  where
    go : (qs : List Place) (ps : List Pane) → AllByRecursion (λ q. In q.rect (room g)) qs → SeenOn (room g) (spot_of qs ps)
    go [] ps f = unseen (room g)
    go (q ∷ qs) [] f = unseen (room g)
    go (q ∷ qs) (p ∷ ps) f = spot_in_ok (room g) q.rect p.term f.0

-- AS NUMBERS
-- a cell that can be drawn is a number below 2^64
fine_small : (c : Cell) → fine_cell c ≡ true → ltb (packed c) (2 ^ 64) ≡ true
fine_small c e =
    let a = and_parts (leb 32 c.sign && leb c.sign 126) _ e in
    let d = and_parts (leb 32 c.sign) _ a.0 in
    let f = and_parts (ltb c.style.marks 8) _ a.1 in
    let g = and_parts (colour c.style.fore) _ f.1 in
    let sign = leb-true _ _ d.1 in
    let marks = ltb-true _ _ f.0 in
    let fore = below_ten c.style.fore g.0 in
    let back = below_ten c.style.back g.1 in
    lt-ltb _ _ (omega arith)
  where
    below_ten : (k : ℕ) → colour k ≡ true → k < 10
    below_ten k e = grind (arith, nat_tests)

small_row : (r : List Cell) → FineRow r → every (λ x. ltb x (2 ^ 64)) (map packed r) ≡ true
small_row [] f = refl
small_row (c ∷ r) f = and_from _ _ (fine_small c f.0) (small_row r f.1)

pub small_cells : (rs : Rows) → AllByRecursion FineRow rs → every (λ x. ltb x (2 ^ 64)) (cells_of rs) ≡ true
unfolding cells_of
small_cells [] f = refl
small_cells (r ∷ rs) f = every_append (λ x. ltb x (2 ^ 64)) (map packed r) (cells_of rs) (small_row r f.0) (small_cells rs f.1)

pub every_fine : (rs : Rows) → AllByRecursion FineRow rs → every (λ r. every fine_cell r) rs ≡ true
every_fine [] f = refl
every_fine (r ∷ rs) f = and_from _ _ (row r f.0) (every_fine rs f.1)
  where
    row : (r : List Cell) → FineRow r → every fine_cell r ≡ true
    row [] f = refl
    row (c ∷ r) f = and_from _ _ f.0 (row r f.1)

-- all that the writer needs
rows_wide : (w : ℕ) (rs : Rows) → AllByRecursion (RowOk w) rs → AsWide w rs
rows_wide w rs f = All-weaker (RowOk w) (λ r. length r ≡ w) (λ r o. o.wide) rs f

rows_fine : (w : ℕ) (rs : Rows) → AllByRecursion (RowOk w) rs → AllByRecursion FineRow rs
rows_fine w rs f = All-weaker (RowOk w) FineRow (λ r o. o.fine) rs f

pub pictured_any : (g : Glass) → GlassOk g → Pictured g
pictured_any g o =
    let rs = picture g in
    let k = picture_ok g o in
    let w = rows_wide g.wide rs k in
    let f = rows_fine g.wide rs k in
    let h : length rs ≡ g.high = picture_large g o.some_high in
    let e = every_fine rs f in
    let l : length (cells_of rs) ≡ g.high * g.wide = length_cells g.wide rs w ∙ ap (λ (n : ℕ). n * g.wide) h in
    let b : rows_of g.wide g.high (cells_of rs) ≡ rs = ap (λ (n : ℕ). rows_of g.wide n (cells_of rs)) (sym h) ∙ rows_of_cells g.wide rs w e in
    record {
      some_wide = o.some_wide;
      wide = o.wide;
      high = o.high;
      long = l;
      fine = writer_law.fine g.wide g.high (cells_of rs) l (ap (every (λ r. every fine_cell r)) b ∙ e);
      small = small_cells rs f;
      back = b;
      inside = spot_on g o.some_high;
    }

-- ONE WINDOW WITH ONE PANE
-- what is needed of the pane in the window
pub record PaneOk (u : One) : Type 0 where
  pub some_wide : 0 < u.wide
  pub wide : u.wide ≤ 200
  pub some_high : 2 ≤ u.high
  pub high : u.high ≤ 60
  pub sound : Sound u.wide (u.high - 1) u.term
  pub fine : Fine u.term

pub pictured_one : (u : One) → PaneOk u → Pictured (one_glass u)
pictured_one u o =
    pictured_any (one_glass u) (record { some_wide = o.some_wide; wide = o.wide; some_high = (let h = o.some_high in omega arith); high = o.high; few = omega arith; fine = (o.fine, tt) })
