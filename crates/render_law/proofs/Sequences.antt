-- What the control sequences of the writer do to a viewer's terminal, and how long they are.
use Rattle.std.proofs.Common.{◌≡◌, ℕ, suc, ◌+◌, ◌-◌, ◌/◌, ◌%◌, ◌<◌, ◌≤◌, Bool, true, false, not, ◌&&◌, eqb, ltb, leb, List, [], ◌∷◌, ◌++◌, length, sym, refl, ap, ◌∙◌, append_assoc, arith, length-append}
use Rattle.std.proofs.lemmas.Bool.Decides.{nat_tests}
use Rattle.std.proofs.lemmas.List.{take_all}
use Rattle.std.proofs.lemmas.Bool.{cond-false, and_parts, and_from, leb-true, ltb-true, lt-leb, eqb-true}
use Rattle.meaning.specs.Words.{pick, or, every, smaller, larger, none_of}
use Rattle.meaning.specs.Screen.{Style, Term, sequence, same_style, plain_style, styled, goes_to, printed}
use Rattle.meaning.specs.Bytes.{byte, low_byte, written, modes, in_digits, digits, all_numbers}
use Rattle.meaning.specs.Laws.{colour, fine_style}
use Rattle.meaning.proofs.Parts.{in_parts}
use Rattle.render.specs.Sequences.{cursor_position, parameter, graphic_rendition, cursor_visible}
use Rattle.render_law.proofs.Views.{View, term_at, term_of, moved, restyled, shown_so, signed}
use Rattle.render_law.proofs.Tables.{all_below, from_table}
use Rattle.render_law.proofs.Numbers.{byte_high, written_number, small_number}

-- one part read, then the rest
pub then_part : (t u : Term) (as₁ bs : List ℕ) → written t as₁ ≡ u → written t (as₁ ++ bs) ≡ written u bs
then_part t u as₁ bs e = in_parts t as₁ bs ∙ ap (λ (x : Term). written x bs) e

pub every_append : {A : Type 0} (f : A → Bool) (xs ys : List A) → every f xs ≡ true → every f ys ≡ true → every f (xs ++ ys) ≡ true
every_append f [] ys a b = b
every_append f (x ∷ xs) ys a b =
    let p = and_parts (f x) (every f xs) a in
    and_from (f x) (every f (xs ++ ys)) p.0 (every_append f xs ys p.1 b)

-- the cursor addressed
address_last : (v : View) (r c : ℕ) → r < v.high → c < v.wide
    → written (term_at v (sequence false ((r + 1) ∷ []) ((c + 1) ∷ []))) (72 ∷ []) ≡ term_of (moved v r c)
unfolding written byte goes_to
address_last v r c h k =
    let a : larger 1 (r + 1) - 1 ≡ r = omega arith in
    let b : larger 1 (c + 1) - 1 ≡ c = omega arith in
    let d : smaller (v.high - 1) r ≡ r = omega arith in
    let e : smaller (v.wide - 1) c ≡ c = omega arith in
    simp (a, b, d, e)

address_second : (v : View) (r c : ℕ) → r < v.high → c < v.wide → v.wide ≤ 200
    → written (term_at v (sequence false [] ((r + 1) ∷ []))) (59 ∷ (in_digits (c + 1) ++ (72 ∷ []))) ≡ term_of (moved v r c)
unfolding written byte
address_second v r c h k w =
    then_part (term_at v (sequence false ((r + 1) ∷ []) [])) _ (in_digits (c + 1)) (72 ∷ []) (written_number v ((r + 1) ∷ []) (c + 1) (omega arith))
    ∙ address_last v r c h k

pub written_address : (v : View) (r c : ℕ) → r < v.high → c < v.wide → v.high ≤ 60 → v.wide ≤ 200 → written (term_of v) (cursor_position r c) ≡ term_of (moved v r c)
unfolding cursor_position written byte low_byte
written_address v r c h k l w =
    then_part (term_at v (sequence false [] [])) _ (in_digits (r + 1)) (59 ∷ (in_digits (c + 1) ++ (72 ∷ []))) (written_number v [] (r + 1) (omega arith))
    ∙ address_second v r c h k w

pub small_address : (r c : ℕ) → r < 60 → c < 200 → (length (cursor_position r c) ≤ 10) × (every (λ b. ltb b 256) (cursor_position r c) ≡ true)
unfolding cursor_position
small_address r c h k =
    let a = small_number (r + 1) (omega arith) in
    let b = small_number (c + 1) (omega arith) in
    let e = length-append (in_digits (r + 1)) (59 ∷ (in_digits (c + 1) ++ (72 ∷ []))) in
    let f = length-append (in_digits (c + 1)) (72 ∷ []) in
    (omega arith, every_append _ (in_digits (r + 1)) _ a.1 (every_append _ (in_digits (c + 1)) _ b.1 refl))

-- a rendition: first its numbers
abbrev joined : ℕ → List ℕ → List ℕ
joined n [] = in_digits n
joined n (m ∷ ns) = in_digits n ++ (59 ∷ joined m ns)

some_of : (ps : List ℕ) (n : ℕ) → none_of (ps ++ (n ∷ [])) ≡ false
some_of [] n = refl
some_of (p ∷ ps) n = refl

all_of : (ps : List ℕ) (n : ℕ) → length ps ≤ 15 → all_numbers ps (n ∷ []) ≡ ps ++ (n ∷ [])
all_of [] n h = refl
all_of (p ∷ ps) n h = take_all 16 _ (let e = length-append (p ∷ ps) (n ∷ []) in omega arith)

style_last : (v : View) (ps : List ℕ) (n : ℕ) → length ps ≤ 15
    → written (term_at v (sequence false ps (n ∷ []))) (109 ∷ []) ≡ term_of (restyled v (styled v.style (ps ++ (n ∷ []))))
unfolding written byte
style_last v ps n h = simp (all_of ps n h, some_of ps n)

style_numbers : (v : View) (ps : List ℕ) (n : ℕ) (ns : List ℕ) → length ps + length ns ≤ 15 → n < 256 → every (λ m. ltb m 256) ns ≡ true
    → written (term_at v (sequence false ps [])) (joined n ns ++ (109 ∷ [])) ≡ term_of (restyled v (styled v.style (ps ++ (n ∷ ns))))
unfolding written byte
style_numbers v ps n [] h k e =
    then_part (term_at v (sequence false ps [])) _ (in_digits n) (109 ∷ []) (written_number v ps n k) ∙ style_last v ps n (omega arith)
style_numbers v ps n (m ∷ ns) h k e =
    let q = and_parts (ltb m 256) (every (λ m. ltb m 256) ns) e in
    let l : length (ps ++ (n ∷ [])) ≤ 16 = (let e₁ = length-append ps (n ∷ []) in omega arith) in
    rw (append_assoc (in_digits n) (59 ∷ joined m ns) (109 ∷ []))
    (then_part (term_at v (sequence false ps [])) _ (in_digits n) (59 ∷ (joined m ns ++ (109 ∷ []))) (written_number v ps n k)
    ∙ (ap (λ (us : List ℕ). written (term_at v (sequence false us [])) (joined m ns ++ (109 ∷ []))) (take_all 16 (ps ++ (n ∷ [])) l)
    ∙ (style_numbers v (ps ++ (n ∷ [])) m ns (let e₂ = length-append ps (n ∷ []) in omega arith) (ltb-true m 256 q.0) q.1
    ∙ ap (λ (us : List ℕ). term_of (restyled v (styled v.style us))) (append_assoc ps (n ∷ []) (m ∷ ns)))))

abbrev numbers_of : ℕ → ℕ → ℕ → List ℕ
numbers_of m f g = (pick (eqb (m % 2) 0) [] (1 ∷ []) ++ (pick (eqb (m / 2 % 2) 0) [] (4 ∷ []) ++ pick (eqb (m / 4 % 2) 0) [] (7 ∷ []))) ++ ((30 + f) ∷ (40 + g) ∷ [])

rendition_cases : (a b c : Bool) (f g : ℕ)
    → 48 ∷ (pick a [] (parameter 1) ++ (pick b [] (parameter 4) ++ (pick c [] (parameter 7) ++ (parameter f ++ (parameter g ++ (109 ∷ []))))))
    ≡ joined 0 ((pick a [] (1 ∷ []) ++ (pick b [] (4 ∷ []) ++ pick c [] (7 ∷ []))) ++ (f ∷ g ∷ [])) ++ (109 ∷ [])
unfolding digits
rendition_cases true true true f g = simp append_assoc
rendition_cases true true false f g = simp append_assoc
rendition_cases true false true f g = simp append_assoc
rendition_cases true false false f g = simp append_assoc
rendition_cases false true true f g = simp append_assoc
rendition_cases false true false f g = simp append_assoc
rendition_cases false false true f g = simp append_assoc
rendition_cases false false false f g = simp append_assoc

rendition_is : (m f g : ℕ) → graphic_rendition m f g ≡ 27 ∷ 91 ∷ (joined 0 (numbers_of m f g) ++ (109 ∷ []))
unfolding graphic_rendition
rendition_is m f g = ap (λ (x : List ℕ). 27 ∷ 91 ∷ x) (rendition_cases (eqb (m % 2) 0) (eqb (m / 2 % 2) 0) (eqb (m / 4 % 2) 0) (30 + f) (40 + g))

-- then a table of all styles that can be drawn
style_right : ℕ → ℕ → ℕ → Bool
style_right m f g =
    same_style (styled plain_style (numbers_of m f g)) (record { marks = m; fore = f; back = g })
    && (every (λ n. ltb n 256) (numbers_of m f g)
    && (leb (length (numbers_of m f g)) 5 && (leb (length (graphic_rendition m f g)) 16 && every (λ b. ltb b 256) (graphic_rendition m f g))))

style_ok : ℕ → ℕ → ℕ → Bool
style_ok m f g = or (not (colour f && colour g)) (style_right m f g)

style_table : all_below (λ m. all_below (λ f. all_below (λ g. style_ok m f g) 10) 10) 8 ≡ true
unfolding style_ok style_right styled digits graphic_rendition
style_table = refl

or_second : (a b : Bool) → a ≡ true → or (not a) b ≡ true → b ≡ true
or_second true b e h = h
or_second false b e h = cc

style_at : (m f g : ℕ) → m < 8 → f < 10 → g < 10 → (colour f && colour g) ≡ true → style_right m f g ≡ true
unfolding style_ok
style_at m f g a b c d =
    or_second (colour f && colour g) (style_right m f g) d
    (from_table (λ z. style_ok m f z) 10 g
    (from_table (λ y. all_below (λ z. style_ok m y z) 10) 10 f
    (from_table (λ x. all_below (λ y. all_below (λ z. style_ok x y z) 10) 10) 8 m style_table a) b) c)

pub colour_small : (k : ℕ) → colour k ≡ true → k < 10
colour_small k e = grind (arith, nat_tests)

pub same_style_sound : (a b : Style) → same_style a b ≡ true → a ≡ b
same_style_sound a b e =
    let p = and_parts (eqb a.marks b.marks) _ e in
    let q = and_parts (eqb a.fore b.fore) _ p.1 in
    λ i. record { marks = eqb-true a.marks b.marks p.0 i; fore = eqb-true a.fore b.fore q.0 i; back = eqb-true a.back b.back q.1 i }

-- what the table says of one style
record Right (s : Style) : Type 0 where
  is : styled plain_style (numbers_of s.marks s.fore s.back) ≡ s
  small : every (λ n. ltb n 256) (numbers_of s.marks s.fore s.back) ≡ true
  five : length (numbers_of s.marks s.fore s.back) ≤ 5
  short : length (graphic_rendition s.marks s.fore s.back) ≤ 16
  bytes : every (λ b. ltb b 256) (graphic_rendition s.marks s.fore s.back) ≡ true

right : (s : Style) → fine_style s ≡ true → Right s
unfolding style_right
right s e =
    let p = and_parts (ltb s.marks 8) _ e in
    let q = and_parts (colour s.fore) _ p.1 in
    let t = style_at s.marks s.fore s.back (ltb-true _ 8 p.0) (colour_small _ q.0) (colour_small _ q.1) p.1 in
    let a = and_parts (same_style (styled plain_style (numbers_of s.marks s.fore s.back)) s) _ t in
    let b = and_parts (every (λ n. ltb n 256) (numbers_of s.marks s.fore s.back)) _ a.1 in
    let c = and_parts (leb (length (numbers_of s.marks s.fore s.back)) 5) _ b.1 in
    let d = and_parts (leb (length (graphic_rendition s.marks s.fore s.back)) 16) _ c.1 in
    record { is = same_style_sound _ s a.0; small = b.0; five = leb-true _ 5 c.0; short = leb-true _ 16 d.0; bytes = d.1 }

pub written_rendition : (v : View) (s : Style) → fine_style s ≡ true → written (term_of v) (graphic_rendition s.marks s.fore s.back) ≡ term_of (restyled v s)
unfolding written byte low_byte styled
written_rendition v s e =
    let r = right s e in
    let f = r.five in
    rw (rendition_is s.marks s.fore s.back)
    (style_numbers v [] 0 (numbers_of s.marks s.fore s.back) (omega arith) (omega arith) r.small
    ∙ ap (λ (x : Style). term_of (restyled v x)) r.is)

pub small_rendition : (s : Style) → fine_style s ≡ true
    → (length (graphic_rendition s.marks s.fore s.back) ≤ 16) × (every (λ b. ltb b 256) (graphic_rendition s.marks s.fore s.back) ≡ true)
small_rendition s e = let r = right s e in (r.short, r.bytes)

-- a character
pick_ap : {A B : Type 0} (f : A → B) (b : Bool) (x y : A) → f (pick b x y) ≡ pick b (f x) (f y)
pick_ap f true x y = refl
pick_ap f false x y = refl

pub written_sign : (v : View) (c : ℕ) → v.late ≡ false → 32 ≤ c → c < 127 → written (term_of v) (c ∷ []) ≡ term_of (signed v c)
unfolding written printed
written_sign v c e h k =
    byte_high (term_of v) c h k
    ∙ (rw (cond-false (leb 128 c) 63 c (lt-leb 128 c (omega arith))) (rw e (sym (pick_ap term_of (ltb (suc v.col) v.wide) _ _))))

-- the cursor shown or hidden
pub written_visible : (v : View) (b : Bool) → written (term_of v) (cursor_visible b) ≡ term_of (shown_so v b)
unfolding written byte low_byte modes
written_visible v true = refl
written_visible v false = refl
