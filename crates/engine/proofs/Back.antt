-- A state that has been put into memory is found there again.
use Rattle.std.proofs.Common.{◌≡◌, ℕ, ◌*◌, ◌^◌, ◌<◌, ◌≤◌, Bool, true, false, eqb, ltb, List, [], length, get_or, take, drop, sym, refl, ap, ◌∙◌, subst, mul-le-mul, arith}
use Rattle.std.proofs.lemmas.Bool.{and_from, eq-eqb, eqb-true, and_parts, lt-ltb, le-leb}
use Rattle.std.proofs.lemmas.Bool.Decides.{Decides-ltb}
use Rattle.meaning.proofs.Edits.{decides_every}
use Rattle.meaning.specs.Words.{every}
use Rattle.meaning.specs.Screen.{Cell, Term, with_rows, with_answer}
use Rattle.meaning.specs.Panes.{Glass}
use Rattle.meaning.specs.Promise.{all_small}
use Rattle.grid.specs.Cells.{style_of, rows_of, cells_of}
use Rattle.grid.specs.declared.cell.Rendition.{Rendition}
use Rattle.grid.proofs.Codes.{unpacked_packed}
use Rattle.header.specs.Header.{yes, bit, header_fits, header_of, InRange}
use Rattle.header.proofs.Laws.{loads_back}
use Rattle.render.specs.Pens.{rendition_of}
use Rattle.engine.specs.Areas.{part}
use Rattle.engine.specs.State.{View, state}
use Rattle.engine.specs.Memory.{memory_size, header_at, screen_at, cells_at, head_fits, memory_fits, decode, encode, head_of, glass_from, view_from, pen_from, terminal_from, rendition_number, has_pane, pane_number}
use Rattle.engine.proofs.Core.{One, one_glass, empty}
use Rattle.engine.proofs.Machine.{Viewed}
use Rattle.engine.proofs.Maps.{Found, FoundTwo, all_found, two_found, all_put, two_put}

yes_bit : (b : Bool) → yes (bit b) ≡ b
yes_bit true = refl
yes_bit false = refl

rendition_back : (r : Rendition) → r.marks < 2 ^ 16 → r.fore < 2 ^ 8 → rendition_of (rendition_number r) ≡ r
rendition_back r a b =
    let c : Cell = record { sign = 0; style = style_of r } in
    let e = unpacked_packed c (omega arith) a b in
    ap (λ (x : Cell). record { marks = x.style.marks; fore = x.style.fore; back = x.style.back }) e

-- the pen, from the head
pen_back : (g : Glass) (v : View) → Viewed g v → pen_from (head_of g v) ≡ v.pen
pen_back g v o =
    let p = o.pen in
    let a = yes_bit v.pen.pending in
    let b = yes_bit v.pen.visible in
    let c = rendition_back v.pen.rendition p.marks p.fore in
    rw (a, b, c)

view_back : (g : Glass) (v : View) (xs : List ℕ) → Viewed g v → take (length v.cells) xs ≡ v.cells → view_from (head_of g v) xs ≡ v
view_back g v xs o e =
    let p = pen_back g v o in
    let c : take (g.high * g.wide) xs ≡ v.cells = ap (λ (n : ℕ). take n xs) (sym o.long) ∙ e in
    let w = sym o.is_wide in
    let h = sym o.is_high in
    rw (p, c, w, h)

header_rows : (t : Term) (xs : List ℕ) → take (t.high * t.wide) xs ≡ cells_of t.rows
    → rows_of (get_or (header_of t) 0 0) (get_or (header_of t) 1 0) (take (get_or (header_of t) 1 0 * get_or (header_of t) 0 0) xs) ≡ rows_of t.wide t.high (cells_of t.rows)
unfolding header_of
header_rows t xs e = ap (rows_of t.wide t.high) e

-- a terminal, from its header and cells
terminal_back : (t : Term) (xs : List ℕ) → InRange t → t.answer ≡ [] → take (t.high * t.wide) xs ≡ cells_of t.rows → rows_of t.wide t.high (cells_of t.rows) ≡ t.rows
    → terminal_from (header_of t) xs ≡ t
terminal_back t xs r a e b =
    (loads_back t r).1 (rows_of (get_or (header_of t) 0 0) (get_or (header_of t) 1 0) (take (get_or (header_of t) 1 0 * get_or (header_of t) 0 0) xs)) []
    ∙ (ap (λ (rs : List (List Cell)). with_answer (with_rows t rs) []) (header_rows t xs e ∙ b) ∙ ap (with_answer t) (sym a))

-- what memory keeps of the pane
pub record Kept (u : One) : Type 0 where
  pub range : InRange u.term
  pub silent : u.term.answer ≡ []
  pub long : length (cells_of u.term.rows) ≡ u.term.high * u.term.wide
  pub rows : rows_of u.term.wide u.term.high (cells_of u.term.rows) ≡ u.term.rows
  pub small : every (λ x. ltb x (2 ^ 64)) (cells_of u.term.rows) ≡ true
  pub number : u.id < 2 ^ 47

-- sizes that memory has room for
pub record Sized (g : Glass) : Type 0 where
  pub some_wide : 0 < g.wide
  pub wide : g.wide ≤ 200
  pub some_high : 0 < g.high
  pub high : g.high ≤ 60
  pub next : g.next < 2 ^ 47

few_cells : (w h : ℕ) → w ≤ 200 → h ≤ 60 → h * w ≤ 12000
few_cells w h a b = mul-le-mul b a

header_long : (t : Term) → InRange t → length (header_of t) ≡ 64
unfolding header_fits
header_long t r = eqb-true _ _ (and_parts (eqb (length (header_of t)) 64) _ (loads_back t r).0).0

-- the numbers of the head
head_small : (g : Glass) (v : View) → Sized g → Viewed g v → pane_number g.panes < 2 ^ 47 → every (λ x. ltb x (2 ^ 64)) (head_of g v) ≡ true
head_small g v s o i =
    let p = o.pen in
    let bits : (b : Bool) → bit b < 2 = λ b. elim b as (λ (x : Bool). bit x < 2) [ true ↦ omega arith | false ↦ omega arith ] in
    let a = bits g.attached in let b = bits g.prefix in let c = bits (has_pane g.panes) in let d = bits v.pen.pending in let e = bits v.pen.visible in
    let n : rendition_number v.pen.rendition < 2 ^ 64 = (let x = p.marks in let y = p.fore in let z = p.back in omega arith) in
    let r = p.row in let q = p.col in let w = s.wide in let h = s.high in let k = s.next in
    (decides_every (λ x. ltb x (2 ^ 64)) (λ x. x < 2 ^ 64) (λ x. Decides-ltb x (2 ^ 64)) (head_of g v)).1
    (omega arith, (omega arith, (omega arith, (omega arith, (omega arith, (omega arith, (omega arith, (omega arith, (omega arith, (omega arith, (omega arith, (n, (omega arith, (omega arith, (omega arith, (omega arith, tt))))))))))))))))

header_small : (t : Term) → InRange t → every (λ x. ltb x (2 ^ 64)) (header_of t) ≡ true
unfolding all_small
header_small t r = (loads_back t r).2

found_one : (m : List ℕ) (u : One) (v : View) → length m ≡ memory_size → Sized (one_glass u) → Kept u → Viewed (one_glass u) v
    → Found (encode m (state (one_glass u) v)) (head_of (one_glass u) v) (header_of u.term) v.cells (cells_of u.term.rows)
unfolding encode
found_one m u v lm s k o =
    let r = k.range in
    let g = one_glass u in
    let hs = head_of g v in
    let hd = header_of u.term in
    let vs = v.cells in
    let ps = cells_of u.term.rows in
    let ld = header_long u.term r in
    let lv : length vs ≤ 12000 = (let l = o.long in let c = few_cells u.wide u.high s.wide s.high in omega arith) in
    let lp : length ps ≤ 12000 = (let l = k.long in let c = few_cells u.term.wide u.term.high r.narrow r.low in omega arith) in
    subst (λ (e : List ℕ). Found e hs hd vs ps)
    (sym (all_put m hs hd vs ps lm refl ld lv lp (head_small g v s o k.number) (header_small u.term r) o.small k.small))
    (all_found m hs hd vs ps lm refl ld lv lp)

found_empty : (m : List ℕ) (w h n : ℕ) (a p : Bool) (v : View) → length m ≡ memory_size → Sized (empty w h a n p) → Viewed (empty w h a n p) v
    → FoundTwo (encode m (state (empty w h a n p) v)) (head_of (empty w h a n p) v) v.cells
unfolding encode
found_empty m w h n a p v lm s o =
    let g = empty w h a n p in
    let lv : length v.cells ≤ 12000 = (let l = o.long in let c = few_cells w h s.wide s.high in omega arith) in
    subst (λ (e : List ℕ). FoundTwo e (head_of g v) v.cells)
    (sym (two_put m (head_of g v) v.cells lm refl lv (head_small g v s o (omega arith)) o.small))
    (two_found m (head_of g v) v.cells lm refl lv)

-- a memory that is in use
decoded : (e head : List ℕ) → part e 0 16 ≡ head → get_or head 0 0 ≡ 1 → decode e ≡ state (glass_from head (terminal_from (part e header_at 64) (drop cells_at e))) (view_from head (drop screen_at e))
unfolding decode
decoded e head h k = rw (h, k)

pub back_one : (m : List ℕ) (u : One) (v : View) → length m ≡ memory_size → Sized (one_glass u) → Kept u → Viewed (one_glass u) v
    → decode (encode m (state (one_glass u) v)) ≡ state (one_glass u) v
back_one m u v lm s k o =
    let g = one_glass u in
    let e = encode m (state g v) in
    let f = found_one m u v lm s k o in
    let c : take (u.term.high * u.term.wide) (drop cells_at e) ≡ cells_of u.term.rows = ap (λ (n : ℕ). take n (drop cells_at e)) (sym k.long) ∙ f.cells_is in
    let t : terminal_from (part e header_at 64) (drop cells_at e) ≡ u.term =
    ap (λ (hd : List ℕ). terminal_from hd (drop cells_at e)) f.header_is ∙ terminal_back u.term (drop cells_at e) k.range k.silent c k.rows in
    decoded e (head_of g v) f.head_is refl
    ∙ (ap (λ (x : Term). state (glass_from (head_of g v) x) (view_from (head_of g v) (drop screen_at e))) t
    ∙ (ap (λ (x : View). state (glass_from (head_of g v) u.term) x) (view_back g v (drop screen_at e) o f.screen_is)
    ∙ (λ i. state (one_glass (record { wide = u.wide; high = u.high; attached = yes_bit u.attached i; id = u.id; term = u.term; next = u.next; prefix = yes_bit u.prefix i })) v)))

pub back_empty : (m : List ℕ) (w h n : ℕ) (a p : Bool) (v : View) → length m ≡ memory_size → Sized (empty w h a n p) → Viewed (empty w h a n p) v
    → decode (encode m (state (empty w h a n p) v)) ≡ state (empty w h a n p) v
back_empty m w h n a p v lm s o =
    let g = empty w h a n p in
    let e = encode m (state g v) in
    let f = found_empty m w h n a p v lm s o in
    decoded e (head_of g v) f.head_is refl
    ∙ (ap (λ (x : View). state (glass_from (head_of g v) (terminal_from (part e header_at 64) (drop cells_at e))) x) (view_back g v (drop screen_at e) o f.screen_is)
    ∙ (ap (λ (b : Bool). state (empty w h b n (yes (bit p))) v) (yes_bit a) ∙ ap (λ (b : Bool). state (empty w h a n b) v) (yes_bit p)))

-- and the memory is seen to hold one
head_ok : (g : Glass) (v : View) → Sized g → ltb (get_or (head_of g v) 7 0) (2 ^ 47) ≡ true → head_fits (head_of g v) ≡ true
head_ok g v s i =
    and_from _ _ (and_from _ _ (lt-ltb _ _ s.some_wide) (and_from _ _ (le-leb _ _ s.wide) (and_from _ _ (lt-ltb _ _ s.some_high) (le-leb _ _ s.high))))
    (and_from _ _ (lt-ltb _ _ s.next) i)

pub fits_one : (m : List ℕ) (u : One) (v : View) → length m ≡ memory_size → Sized (one_glass u) → Kept u → Viewed (one_glass u) v
    → memory_fits (encode m (state (one_glass u) v)) ≡ true
unfolding memory_fits
fits_one m u v lm s k o =
    let f = found_one m u v lm s k o in
    let h = f.head_is in
    let d = f.header_is in
    let l = head_ok (one_glass u) v s (lt-ltb _ _ k.number) in
    let b = (loads_back u.term k.range).0 in
    and_from _ _ (eq-eqb _ _ f.long) (rw (h, d, l, b))

pub fits_empty : (m : List ℕ) (w h n : ℕ) (a p : Bool) (v : View) → length m ≡ memory_size → Sized (empty w h a n p) → Viewed (empty w h a n p) v
    → memory_fits (encode m (state (empty w h a n p) v)) ≡ true
unfolding memory_fits
fits_empty m w h n a p v lm s o =
    let f = found_empty m w h n a p v lm s o in
    let d = f.head_is in
    let l = head_ok (empty w h a n p) v s refl in
    and_from _ _ (eq-eqb _ _ f.long) (rw (d, l))

pub long_one : (m : List ℕ) (u : One) (v : View) → length m ≡ memory_size → Sized (one_glass u) → Kept u → Viewed (one_glass u) v → length (encode m (state (one_glass u) v)) ≡ memory_size
long_one m u v lm s k o = (found_one m u v lm s k o).long

pub long_empty : (m : List ℕ) (w h n : ℕ) (a p : Bool) (v : View) → length m ≡ memory_size → Sized (empty w h a n p) → Viewed (empty w h a n p) v
    → length (encode m (state (empty w h a n p) v)) ≡ memory_size
long_empty m w h n a p v lm s o = (found_empty m w h n a p v lm s o).long
