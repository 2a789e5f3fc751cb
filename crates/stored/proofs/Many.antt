-- A state of several windows and panes that has been put into memory is found there again.
use Rattle.std.proofs.Common.{◌≡◌, ℕ, ◌+◌, ◌*◌, ◌^◌, ◌<◌, ◌≤◌, Bool, true, false, ltb, List, ◌++◌, length, get_or, take, drop, sym, refl, ap, ◌∙◌, subst, mul-le-mul, arith, length-append}
use lib.ListN.{length-map, length-replicate}
use Rattle.std.specs.List.{AllByRecursion}
use Rattle.std.proofs.ByRecursion.{All-append, All-weaker}
use Rattle.std.proofs.lemmas.Bool.Decides.{Decides-ltb}
use Rattle.meaning.proofs.Edits.{decides_every, all_replicate}
use Rattle.meaning.specs.Words.{every, each, so_many}
use Rattle.meaning.specs.Screen.{Cell}
use Rattle.meaning.specs.Panes.{Glass}
use Rattle.grid.specs.Cells.{style_of}
use Rattle.grid.specs.declared.cell.Rendition.{Rendition}
use Rattle.grid.proofs.Codes.{unpacked_packed}
use Rattle.header.specs.Header.{yes, bit}
use Rattle.render.specs.Pens.{rendition_of}
use Rattle.engine.specs.Areas.{part}
use Rattle.engine.specs.State.{View, State, state}
use Rattle.engine.specs.Memory.{memory_size, header_at, screen_at, cells_at, rendition_number}
use Rattle.stored.specs.Codes.{windows_code, are, parse_windows}
use Rattle.stored.specs.Many.{head_part, layouts_in, windows_of, windows_from, panes_from, many_glass, many_pen, many_view, many_state, many_decode, widened, scalars, focuses, numbers, headers, all_cells, many_head, many_encode}
use Rattle.stored.specs.Laws.{ViewKept, GlassKept, Storable, ManyBack}
use Rattle.stored.proofs.Codes.{codes_long, windows_read, codes_small}
use Rattle.stored.proofs.Areas.{Found, all_found, all_put, goes_on, second_part, third_part, last_part, length_widened, widened_is, all_widened, take_widened}
use Rattle.stored.proofs.Panes.{windows_back, focuses_small, numbers_small, panes_back, headers_small, headers_long, cells_small}

yes_bit : (b : Bool) → yes (bit b) ≡ b
yes_bit true = refl
yes_bit false = refl

rendition_back : (r : Rendition) → r.marks < 2 ^ 16 → r.fore < 2 ^ 8 → rendition_of (rendition_number r) ≡ r
rendition_back r a b =
    let c : Cell = record { sign = 0; style = style_of r } in
    let e = unpacked_packed c (omega arith) a b in
    ap (λ (x : Cell). record { marks = x.style.marks; fore = x.style.fore; back = x.style.back }) e

-- THE HEAD
-- what the head says, number by number
pub record Tells (h : List ℕ) (g : Glass) (v : View) : Type 0 where
  pub kind : get_or h 0 0 ≡ 2
  pub wide : get_or h 1 0 ≡ g.wide
  pub high : get_or h 2 0 ≡ g.high
  pub attached : get_or h 3 0 ≡ bit g.attached
  pub prefix : get_or h 4 0 ≡ bit g.prefix
  pub at : get_or h 5 0 ≡ g.at
  pub next : get_or h 6 0 ≡ g.next
  pub windows : get_or h 7 0 ≡ length g.windows
  pub panes : get_or h 8 0 ≡ length g.panes
  pub row : get_or h 9 0 ≡ v.pen.row
  pub col : get_or h 10 0 ≡ v.pen.col
  pub pending : get_or h 11 0 ≡ bit v.pen.pending
  pub rendition : get_or h 12 0 ≡ rendition_number v.pen.rendition
  pub visible : get_or h 13 0 ≡ bit v.pen.visible
  pub focus : part h 16 8 ≡ widened 8 (focuses g.windows)
  pub codes : part h 24 64 ≡ widened 64 (windows_code g.windows)
  pub ids : part h 128 32 ≡ widened 32 (numbers g.panes)

pub tells : (g : Glass) (v : View) → Tells (many_head g v) g v
unfolding many_head
tells g v =
    let a = scalars g v in
    let b = widened 8 (focuses g.windows) in
    let c = widened 64 (windows_code g.windows) in
    let z : List ℕ = so_many 40 0 in
    let d = widened 32 (numbers g.panes) in
    let lb = length_widened 8 (focuses g.windows) in
    let lc = length_widened 64 (windows_code g.windows) in
    let lz = length-replicate {A = ℕ} 40 0 in
    let ld = length_widened 32 (numbers g.panes) in
    record {
      kind = refl;
      wide = refl;
      high = refl;
      attached = refl;
      prefix = refl;
      at = refl;
      next = refl;
      windows = refl;
      panes = refl;
      row = refl;
      col = refl;
      pending = refl;
      rendition = refl;
      visible = refl;
      focus = second_part a b (c ++ (z ++ d)) 16 8 refl lb;
      codes = third_part a b c (z ++ d) 24 64 (ap (λ (n : ℕ). 16 + n) lb) lc;
      ids = last_part a b c z d 128 32 (λ i. 16 + lb i + lc i + lz i) ld;
    }

pub head_long : (g : Glass) (v : View) → length (many_head g v) ≡ 160
unfolding many_head
head_long g v =
    let a = scalars g v in
    let b = widened 8 (focuses g.windows) in
    let c = widened 64 (windows_code g.windows) in
    let z : List ℕ = so_many 40 0 in
    let d = widened 32 (numbers g.panes) in
    let lb = length_widened 8 (focuses g.windows) in
    let lc = length_widened 64 (windows_code g.windows) in
    let lz = length-replicate {A = ℕ} 40 0 in
    let ld = length_widened 32 (numbers g.panes) in
    length-append a (b ++ (c ++ (z ++ d)))
    ∙ (ap (λ (n : ℕ). 16 + n) (length-append b (c ++ (z ++ d)) ∙ (λ i. lb i + (length-append c (z ++ d) ∙ (λ j. lc j + (length-append z d ∙ (λ k. lz k + ld k)) j)) i)))

-- its numbers are below 2^64
abbrev Word : ℕ → Type 0
Word n = n < 2 ^ 64

scalars_words : (g : Glass) (v : View) → GlassKept g → ViewKept g v → AllByRecursion Word (scalars g v)
scalars_words g v s o =
    let p = o.pen in
    let bits : (b : Bool) → bit b < 2 = λ b. elim b as (λ (x : Bool). bit x < 2) [ true ↦ omega arith | false ↦ omega arith ] in
    let a = bits g.attached in let b = bits g.prefix in let d = bits v.pen.pending in let e = bits v.pen.visible in
    let n : rendition_number v.pen.rendition < 2 ^ 64 = (let x = p.marks in let y = p.fore in let z = p.back in omega arith) in
    let r = p.row in let q = p.col in let w = s.wide in let h = s.high in let k = s.next in let t = s.at in let fw = s.few_windows in let fp = s.few_panes in
    (omega arith, (omega arith, (omega arith, (omega arith, (omega arith, (omega arith, (omega arith, (omega arith, (omega arith, (omega arith, (omega arith, (omega arith, (n, (omega arith, (omega arith, (omega arith, tt))))))))))))))))

head_small : (g : Glass) (v : View) → GlassKept g → ViewKept g v → every (λ x. ltb x (2 ^ 64)) (many_head g v) ≡ true
unfolding many_head
head_small g v s o =
    let fs = focuses g.windows in
    let cs = windows_code g.windows in
    let ns = numbers g.panes in
    let a = scalars_words g v s o in
    let b = all_widened Word (omega arith) 8 fs (All-weaker (λ i. i < 2 ^ 47) Word (λ n h. omega arith) fs (focuses_small g.windows s.windows)) in
    let c = all_widened Word (omega arith) 64 cs (All-weaker (λ i. i < 2 ^ 47 + 2) Word (λ n h. omega arith) cs (codes_small g.windows s.windows)) in
    let d = all_widened Word (omega arith) 32 ns (All-weaker (λ i. i < 2 ^ 47) Word (λ n h. omega arith) ns (numbers_small g.panes s.panes)) in
    (decides_every (λ x. ltb x (2 ^ 64)) Word (λ x. Decides-ltb x (2 ^ 64)) (many_head g v)).1
    (All-append Word (scalars g v) _ a (All-append Word (widened 8 fs) _ b (All-append Word (widened 64 cs) _ c (All-append Word (so_many 40 0) _ (all_replicate Word 40 0 (omega arith)) d))))

-- no more codes than there is room for
codes_short : (g : Glass) → GlassKept g → length (windows_code g.windows) ≤ 64
codes_short g s = let a = codes_long g.windows in let b = s.few_places in omega arith

pub layouts_back : (h : List ℕ) (g : Glass) (v : View) → GlassKept g → Tells h g v → layouts_in h ≡ are (each (λ w. w.layout) g.windows)
layouts_back h g v s t =
    let c = windows_code g.windows in
    (λ i. parse_windows (t.windows i) (t.codes i)) ∙ (ap (parse_windows (length g.windows)) (widened_is 64 c (codes_short g s)) ∙ windows_read g.windows _ (codes_short g s))

windows_found : (h : List ℕ) (g : Glass) (v : View) → GlassKept g → Tells h g v → windows_from (layouts_in h) (part h 16 8) ≡ g.windows
windows_found h g v s t =
    let l : length (focuses g.windows) ≤ 8 = (let a = length-map g.windows (λ w. w.focus) in let b = s.few_windows in omega arith) in
    (λ i. windows_from (layouts_back h g v s t i) (t.focus i))
    ∙ (ap (windows_of (each (λ w. w.layout) g.windows)) (widened_is 8 (focuses g.windows) l) ∙ windows_back g.windows _)

numbers_found : (h : List ℕ) (g : Glass) (v : View) → GlassKept g → Tells h g v → take (get_or h 8 0) (part h 128 32) ≡ numbers g.panes
numbers_found h g v s t =
    let e : length (numbers g.panes) ≡ length g.panes = length-map g.panes (λ p. p.id) in
    (λ i. take (t.panes i) (t.ids i)) ∙ (ap (λ (n : ℕ). take n (widened 32 (numbers g.panes))) (sym e) ∙ take_widened 32 (numbers g.panes) (let b = s.few_panes in omega arith))

-- the glass and the view, from the areas
glass_back : (h hs cs : List ℕ) (g : Glass) (v : View) → GlassKept g → Tells h g v → many_glass h (headers g.panes ++ hs) (all_cells g.panes ++ cs) ≡ g
glass_back h hs cs g v s t =
    let w = windows_found h g v s t in
    let n = numbers_found h g v s t in
    let p = ap (λ (z : List ℕ). panes_from z (headers g.panes ++ hs) (all_cells g.panes ++ cs)) n ∙ panes_back g.panes hs cs s.panes in
    let a = ap yes t.attached ∙ yes_bit g.attached in
    let b = ap yes t.prefix ∙ yes_bit g.prefix in
    λ i. record { wide = t.wide i; high = t.high i; attached = a i; windows = w i; at = t.at i; panes = p i; next = t.next i; prefix = b i }

pen_back : (h : List ℕ) (g : Glass) (v : View) → ViewKept g v → Tells h g v → many_pen h ≡ v.pen
pen_back h g v o t =
    let p = o.pen in
    let a = ap yes t.pending ∙ yes_bit v.pen.pending in
    let b = ap yes t.visible ∙ yes_bit v.pen.visible in
    let c = ap rendition_of t.rendition ∙ rendition_back v.pen.rendition p.marks p.fore in
    λ i. record { row = t.row i; col = t.col i; pending = a i; rendition = c i; visible = b i }

view_back : (h vs : List ℕ) (g : Glass) (v : View) → ViewKept g v → Tells h g v → take (length v.cells) vs ≡ v.cells → many_view h vs ≡ v
view_back h vs g v o t e =
    let p = pen_back h g v o t in
    let w = t.wide ∙ sym o.is_wide in
    let y = t.high ∙ sym o.is_high in
    let c : take (get_or h 2 0 * get_or h 1 0) vs ≡ v.cells = (λ i. take (t.high i * t.wide i) vs) ∙ (ap (λ (n : ℕ). take n vs) (sym o.long) ∙ e) in
    λ i. record { wide = w i; high = y i; cells = c i; pen = p i }

-- THE MEMORY
few_cells : (w h : ℕ) → w ≤ 200 → h ≤ 60 → h * w ≤ 12000
few_cells w h a b = mul-le-mul b a

pub found : (m : List ℕ) (s : State) → length m ≡ memory_size → Storable s
    → Found (many_encode m s) (many_head s.glass s.view) (headers s.glass.panes) s.view.cells (all_cells s.glass.panes)
unfolding many_encode
found m s lm k =
    let g = s.glass in
    let v = s.view in
    let kg = k.glass in
    let kv = k.view in
    let hd = many_head g v in
    let hs = headers g.panes in
    let vs = v.cells in
    let cs = all_cells g.panes in
    let lh : length hs ≤ 2048 = (let a = headers_long g.panes in let b = kg.few_panes in omega arith) in
    let lv : length vs ≤ 12000 = (let l = kv.long in let c = few_cells g.wide g.high kg.wide kg.high in omega arith) in
    subst (λ (e : List ℕ). Found e hd hs vs cs)
    (sym (all_put m hd hs vs cs lm (head_long g v) lh lv kg.few_cells (head_small g v kg kv) (headers_small g.panes kg.panes) kv.small (cells_small g.panes kg.panes)))
    (all_found m hd hs vs cs lm (head_long g v) lh lv kg.few_cells)

-- a memory that is in use
decoded : (e h : List ℕ) → head_part e ≡ h → get_or h 0 0 ≡ 2 → many_decode e ≡ many_state h (drop header_at e) (drop screen_at e) (drop cells_at e)
unfolding many_decode
decoded e h p k = rw (p, k)

pub many_back : ManyBack
many_back m s lm k =
    let g = s.glass in
    let v = s.view in
    let e = many_encode m s in
    let h = many_head g v in
    let f = found m s lm k in
    let t = tells g v in
    let a = goes_on (headers g.panes) (drop header_at e) f.headers_is in
    let b = goes_on (all_cells g.panes) (drop cells_at e) f.cells_is in
    decoded e h f.head_is t.kind
    ∙ ((λ i. state (many_glass h (a i) (b i)) (many_view h (drop screen_at e)))
    ∙ (λ i. state (glass_back h (drop (length (headers g.panes)) (drop header_at e)) (drop (length (all_cells g.panes)) (drop cells_at e)) g v k.glass t i) (view_back h (drop screen_at e) g v k.view t f.screen_is i)))
