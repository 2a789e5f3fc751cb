-- A memory into which a state was put is seen to hold one; it never grows, nor do its numbers; and what all zeros stand for.
use Rattle.std.proofs.Common.{◌≡◌, ℕ, zero, suc, ◌+◌, ◌^◌, ◌<◌, true, ◌&&◌, ltb, leb, List, ◌++◌, length, get_or, drop, refl, ap, ◌∙◌, arith}
use lib.ListN.{length-replicate}
use Rattle.std.specs.List.{AllByRecursion}
use Rattle.std.proofs.lemmas.Bool.{and_from, eq-eqb, lt-ltb, le-leb, or_left, or_right, cond-true}
use Rattle.std.proofs.lemmas.Bool.Decides.{Decides-ltb}
use Rattle.meaning.proofs.Edits.{decides_every}
use Rattle.meaning.specs.Words.{every, so_many}
use Rattle.meaning.specs.Panes.{Glass}
use Rattle.engine.specs.State.{View}
use Rattle.engine.specs.Memory.{memory_size, header_at}
use Rattle.engine.proofs.Areas.{length_put, small_put}
use Rattle.stored.specs.Codes.{windows_code}
use Rattle.stored.specs.Many.{cells_room, head_part, were_read, size_fits, counts_fit, numbers_fit, head_fits, panes_fit, many_fits, many_decode, focuses, numbers, headers, many_head, many_encode}
use Rattle.stored.specs.Laws.{GlassKept, ManyFit, LengthMany, SmallMany, ManyZero}
use Rattle.stored.proofs.Codes.{codes_small}
use Rattle.stored.proofs.Areas.{goes_on, all_widened}
use Rattle.stored.proofs.Panes.{focuses_small, numbers_small, headers_are_fit, all_asked_is}
use Rattle.stored.proofs.Many.{Tells, tells, layouts_back, found}

below : (n : ℕ) (xs : List ℕ) → AllByRecursion (λ x. x < n) xs → every (λ x. ltb x n) xs ≡ true
below n xs p = (decides_every (λ x. ltb x n) (λ x. x < n) (λ x. Decides-ltb x n) xs).1 p

size_is_fit : (h : List ℕ) (g : Glass) (v : View) → GlassKept g → Tells h g v → size_fits h ≡ true
size_is_fit h g v s t =
    (λ i. ltb 0 (t.wide i) && (leb (t.wide i) 200 && (ltb 0 (t.high i) && leb (t.high i) 60)))
    ∙ and_from _ _ (lt-ltb _ _ s.some_wide) (and_from _ _ (le-leb _ _ s.wide) (and_from _ _ (lt-ltb _ _ s.some_high) (le-leb _ _ s.high)))

counts_are_fit : (h : List ℕ) (g : Glass) (v : View) → GlassKept g → Tells h g v → counts_fit h ≡ true
counts_are_fit h g v s t =
    (λ i. ltb (t.at i) 8 && (ltb (t.next i) (2 ^ 47) && (leb (t.windows i) 8 && leb (t.panes i) 32)))
    ∙ and_from _ _ (lt-ltb _ _ s.at) (and_from _ _ (lt-ltb _ _ s.next) (and_from _ _ (le-leb _ _ s.few_windows) (le-leb _ _ s.few_panes)))

numbers_are_fit : (h : List ℕ) (g : Glass) (v : View) → GlassKept g → Tells h g v → numbers_fit h ≡ true
numbers_are_fit h g v s t =
    and_from _ _ (ap (every (λ x. ltb x (2 ^ 47))) t.focus ∙ below (2 ^ 47) _ (all_widened (λ x. x < 2 ^ 47) (omega arith) 8 (focuses g.windows) (focuses_small g.windows s.windows)))
    (and_from _ _ (ap (every (λ x. ltb x (2 ^ 47 + 2))) t.codes ∙ below (2 ^ 47 + 2) _ (all_widened (λ x. x < 2 ^ 47 + 2) (omega arith) 64 (windows_code g.windows) (codes_small g.windows s.windows)))
    (ap (every (λ x. ltb x (2 ^ 47))) t.ids ∙ below (2 ^ 47) _ (all_widened (λ x. x < 2 ^ 47) (omega arith) 32 (numbers g.panes) (numbers_small g.panes s.panes))))

head_is_fit : (h : List ℕ) (g : Glass) (v : View) → GlassKept g → Tells h g v → head_fits h ≡ true
unfolding head_fits
head_is_fit h g v s t =
    and_from _ _ (size_is_fit h g v s t) (and_from _ _ (counts_are_fit h g v s t) (and_from _ _ (numbers_are_fit h g v s t) (ap were_read (layouts_back h g v s t))))

panes_are_fit : (hs : List ℕ) (g : Glass) → GlassKept g → panes_fit (length g.panes) (headers g.panes ++ hs) ≡ true
panes_are_fit hs g s =
    and_from _ _ (headers_are_fit g.panes hs s.panes) (ap (λ (n : ℕ). leb n cells_room) (all_asked_is g.panes hs s.panes) ∙ le-leb _ _ s.few_cells)

in_use : (e h : List ℕ) → length e ≡ memory_size → head_part e ≡ h → get_or h 0 0 ≡ 2 → head_fits h ≡ true → panes_fit (get_or h 8 0) (drop header_at e) ≡ true → many_fits e ≡ true
unfolding many_fits
in_use e h l p k a b =
    and_from _ _ (eq-eqb _ _ l)
    (or_right _ _ (and_from _ _ (eq-eqb _ _ (ap (λ (z : List ℕ). get_or z 0 0) p ∙ k)) (and_from _ _ (ap head_fits p ∙ a) (ap (λ (z : List ℕ). panes_fit (get_or z 8 0) (drop header_at e)) p ∙ b))))

pub many_fit : ManyFit
many_fit m s lm k =
    let g = s.glass in
    let v = s.view in
    let e = many_encode m s in
    let h = many_head g v in
    let f = found m s lm k in
    let t = tells g v in
    let a = goes_on (headers g.panes) (drop header_at e) f.headers_is in
    in_use e h f.long f.head_is t.kind (head_is_fit h g v k.glass t)
    ((λ i. panes_fit (t.panes i) (a i)) ∙ panes_are_fit (drop (length (headers g.panes)) (drop header_at e)) g k.glass)

pub length_many : LengthMany
unfolding many_encode
length_many m s = length_put _ 0 _ ∙ (length_put _ _ _ ∙ (length_put _ _ _ ∙ length_put m _ _))

pub small_many : SmallMany
unfolding many_encode
small_many m s e = small_put _ 0 _ (small_put _ _ _ (small_put _ _ _ (small_put m _ _ e)))

-- the start
zero_first : (n : ℕ) → get_or (head_part (so_many n 0)) 0 0 ≡ 0
zero_first zero = refl
zero_first (suc n) = refl

pub many_zero : ManyZero
unfolding many_fits many_decode
many_zero = (and_from _ _ (eq-eqb _ _ (length-replicate memory_size 0)) (or_left _ _ (eq-eqb _ _ (zero_first memory_size))), cond-true _ _ _ (eq-eqb _ _ (zero_first memory_size)))
