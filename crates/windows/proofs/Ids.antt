-- The numbers of panes, counted: in places and layouts, in a layout with a pane split or taken away, and in windows.
use Rattle.std.proofs.Common.{◌≡◌, ℕ, zero, suc, ◌+◌, ◌<◌, ◌≤◌, Bool, true, false, not, eqb, ◌⊎◌, List, [], ◌∷◌, ◌++◌, length, get_or, sym, refl, ap, ◌∙◌, ap₂, inl, inr, append_assoc, arith, length-append}
use Rattle.std.proofs.lemmas.Bool.Decides.{nat_tests}
use Rattle.std.proofs.lemmas.List.{append-nil}
use Rattle.std.proofs.lemmas.Bool.{ne_eqb, eq-eqb, eqb-true, eqb-false, cases_Bool}
use Rattle.meaning.specs.Words.{pick, each, those, flat, put_at}
use Rattle.meaning.specs.Panes.{Window, Layout, pane, beside, above, Rect, places, left_of, right_of, upper_of, lower_of, ids, in_place, side_by, without, window_at, Pane, less_pane, new_focus, windows_without}
use Rattle.windows.specs.Counting.{times, place_ids, pane_ids, glass_ids}
use Rattle.windows.specs.Invariants.{Focused}
use Rattle.windows.specs.Parts.{two}

pub times_append : (i : ℕ) (xs ys : List ℕ) → times i (xs ++ ys) ≡ times i xs + times i ys
unfolding times
times_append i [] ys = omega arith
times_append i (x ∷ xs) ys = let e = times_append i xs ys in omega arith

pub flat_append : {A B : Type 0} (f : A → List B) (xs ys : List A) → flat f (xs ++ ys) ≡ flat f xs ++ flat f ys
flat_append f [] ys = refl
flat_append f (x ∷ xs) ys = ap (λ (z : _). f x ++ z) (flat_append f xs ys) ∙ sym (append_assoc (f x) (flat f xs) (flat f ys))

pub each_append : {A B : Type 0} (f : A → B) (xs ys : List A) → each f (xs ++ ys) ≡ each f xs ++ each f ys
each_append f [] ys = refl
each_append f (x ∷ xs) ys = ap (λ (z : _). f x ∷ z) (each_append f xs ys)

pub length_each : {A B : Type 0} (f : A → B) (xs : List A) → length (each f xs) ≡ length xs
length_each f [] = refl
length_each f (x ∷ xs) = ap suc (length_each f xs)

-- places have the ids of their layouts
pub ids_places : (l : Layout) (r : Rect) → place_ids (places l r) ≡ ids l
unfolding places ids
ids_places (pane i) r = refl
ids_places (beside a b) r = each_append _ (places a (left_of r)) _ ∙ ap₂ (λ (x y : List ℕ). x ++ y) (ids_places a (left_of r)) (ids_places b (right_of r))
ids_places (above a b) r = each_append _ (places a (upper_of r)) _ ∙ ap₂ (λ (x y : List ℕ). x ++ y) (ids_places a (upper_of r)) (ids_places b (lower_of r))

pub ids_all : (vs : List Window) (r : Rect) → place_ids (flat (λ v. places v.layout r) vs) ≡ glass_ids vs
ids_all [] r = refl
ids_all (v ∷ vs) r = each_append _ (places v.layout r) _ ∙ ap₂ (λ (x y : List ℕ). x ++ y) (ids_places v.layout r) (ids_all vs r)

-- A LAYOUT WITH A PANE IN TWO
ids_two : (side : Bool) (f n : ℕ) → ids (two side f n) ≡ f ∷ n ∷ []
unfolding ids
ids_two true f n = refl
ids_two false f n = refl

pick_sum : (b : Bool) (m n : ℕ) → pick b (m + n) 0 ≡ pick b m 0 + pick b n 0
pick_sum true m n = refl
pick_sum false m n = refl

pick_sum' : (b : Bool) (m n : ℕ) → pick b 0 (m + n) ≡ pick b 0 m + pick b 0 n
pick_sum' true m n = refl
pick_sum' false m n = refl

pub in_two : (l : Layout) (side : Bool) (f n i : ℕ) → times i (ids (in_place l f (two side f n))) ≡ times i (ids l) + pick (eqb i n) (times f (ids l)) 0
unfolding ids in_place times
in_two (pane j) side f n i = go (cases_Bool (eqb f j))
  where
    go : (eqb f j ≡ true) ⊎ (eqb f j ≡ false) → times i (ids (pick (eqb f j) (two side f n) (pane j))) ≡ pick (eqb i j) 1 0 + 0 + pick (eqb i n) (pick (eqb f j) 1 0 + 0) 0
    go (inl e) = let d = eqb-true f j e in rw (e, ids_two side f n, d) (omega arith)
    go (inr e) = rw e (grind (arith, nat_tests))
in_two (beside a b) side f n i = rw (times_append i (ids (in_place a f (two side f n))) (ids (in_place b f (two side f n))), times_append i (ids a) (ids b), times_append f (ids a) (ids b), pick_sum (eqb i n) (times f (ids a)) (times f (ids b)))
    (let p = in_two a side f n i in let q = in_two b side f n i in omega arith)
in_two (above a b) side f n i = rw (times_append i (ids (in_place a f (two side f n))) (ids (in_place b f (two side f n))), times_append i (ids a) (ids b), times_append f (ids a) (ids b), pick_sum (eqb i n) (times f (ids a)) (times f (ids b)))
    (let p = in_two a side f n i in let q = in_two b side f n i in omega arith)

pub length_two : (l : Layout) (side : Bool) (f n : ℕ) → length (ids (in_place l f (two side f n))) ≡ length (ids l) + times f (ids l)
unfolding ids in_place times
length_two (pane j) side f n = go (cases_Bool (eqb f j))
  where
    go : (eqb f j ≡ true) ⊎ (eqb f j ≡ false) → length (ids (pick (eqb f j) (two side f n) (pane j))) ≡ 1 + (pick (eqb f j) 1 0 + 0)
    go (inl e) = rw (e, ids_two side f n)
    go (inr e) = rw e
length_two (beside a b) side f n = rw (length-append (ids (in_place a f (two side f n))) (ids (in_place b f (two side f n))), length-append (ids a) (ids b), times_append f (ids a) (ids b))
    (let p = length_two a side f n in let q = length_two b side f n in omega arith)
length_two (above a b) side f n = rw (length-append (ids (in_place a f (two side f n))) (ids (in_place b f (two side f n))), length-append (ids a) (ids b), times_append f (ids a) (ids b))
    (let p = length_two a side f n in let q = length_two b side f n in omega arith)

-- A LAYOUT WITHOUT A PANE
side_few : (f : Layout → Layout → Layout) (xs ys : List Layout) → length xs ≤ 1 → length ys ≤ 1 → length (side_by f xs ys) ≤ 1
side_few f [] ys a b = b
side_few f (x ∷ xs) [] a b = omega arith
side_few f (x ∷ xs) (y ∷ ys) a b = omega arith

side_ids : (f : Layout → Layout → Layout) → ((a b : Layout) → ids (f a b) ≡ ids a ++ ids b) → (xs ys : List Layout) → length xs ≤ 1 → length ys ≤ 1 →
    flat ids (side_by f xs ys) ≡ flat ids xs ++ flat ids ys
side_ids f h [] ys a b = refl
side_ids f h (x ∷ x₁ ∷ xs) ys a b = absurd (omega arith)
side_ids f h (x ∷ []) [] a b = sym (append-nil _)
side_ids f h (x ∷ []) (y ∷ []) a b = simp (append-nil, h)
side_ids f h (x ∷ []) (y ∷ y₁ ∷ ys) a b = absurd (omega arith)

pub without_few : (l : Layout) (i : ℕ) → length (without l i) ≤ 1
unfolding without
without_few (pane j) i = go (eqb i j)
  where
    go : (b : Bool) → length (pick b [] (pane j ∷ [])) ≤ 1
    go true = omega arith
    go false = omega arith
without_few (beside a b) i = side_few beside _ _ (without_few a i) (without_few b i)
without_few (above a b) i = side_few above _ _ (without_few a i) (without_few b i)

pub record Less (l : Layout) (i : ℕ) : Type 0 where
  pub here : (j : ℕ) → times j (flat ids (without l i)) ≡ pick (eqb j i) 0 (times j (ids l))
  pub long : length (flat ids (without l i)) + times i (ids l) ≡ length (ids l)

less_both : (i : ℕ) (a b : Layout) (f : Layout → Layout → Layout) → ((x y : Layout) → ids (f x y) ≡ ids x ++ ids y) → (without (f a b) i ≡ side_by f (without a i) (without b i)) → Less a i → Less b i → Less (f a b) i
less_both i a b f h w p q =
    let e : flat ids (without (f a b) i) ≡ flat ids (without a i) ++ flat ids (without b i) = ap (flat ids) w ∙ side_ids f h (without a i) (without b i) (without_few a i) (without_few b i) in
    record {
      here = λ j. rw (e, h a b, times_append j (flat ids (without a i)) (flat ids (without b i)), times_append j (ids a) (ids b), pick_sum' (eqb j i) (times j (ids a)) (times j (ids b))) (let x = p.here j in let y = q.here j in omega arith);
      long = rw (e, h a b, length-append (flat ids (without a i)) (flat ids (without b i)), length-append (ids a) (ids b), times_append i (ids a) (ids b)) (let x = p.long in let y = q.long in omega arith);
    }

pub less : (l : Layout) (i : ℕ) → Less l i
unfolding without ids times
less (pane k) i = go (cases_Bool (eqb i k))
  where
    go : (eqb i k ≡ true) ⊎ (eqb i k ≡ false) → Less (pane k) i
    go (inl e) = let d = eqb-true i k e in record { here = λ j. rw (e, d) (grind (arith, nat_tests)); long = rw e }
    go (inr e) = let d = eqb-false i k e in record { here = λ j. rw e (grind (arith, nat_tests)); long = rw e (omega arith) }
less (beside a b) i = less_both i a b beside (λ x y. refl) refl (less a i) (less b i)
less (above a b) i = less_both i a b above (λ x y. refl) refl (less a i) (less b i)

-- WINDOWS WITHOUT A PANE
less_window : (i : ℕ) (v : Window) (ls : List Layout) → length ls ≤ 1 → glass_ids (less_pane i v ls) ≡ flat ids ls
less_window i v [] h = refl
less_window i v (l ∷ []) h = refl
less_window i v (l ∷ l₁ ∷ ls) h = absurd (omega arith)

window_ids : (i : ℕ) (v : Window) (vs : List Window) → glass_ids (windows_without i (v ∷ vs)) ≡ flat ids (without v.layout i) ++ glass_ids (windows_without i vs)
window_ids i v vs = flat_append _ (less_pane i v (without v.layout i)) _ ∙ ap (λ (z : List ℕ). z ++ glass_ids (windows_without i vs)) (less_window i v (without v.layout i) (without_few v.layout i))

pub gone_times : (i j : ℕ) (vs : List Window) → times j (glass_ids (windows_without i vs)) ≡ pick (eqb j i) 0 (times j (glass_ids vs))
unfolding times
gone_times i j [] = go (eqb j i)
  where
    go : (b : Bool) → ◌≡◌ {A = ℕ} 0 (pick b 0 0)
    go true = refl
    go false = refl
gone_times i j (v ∷ vs) =
    rw (window_ids i v vs, times_append j (flat ids (without v.layout i)) (glass_ids (windows_without i vs)), times_append j (ids v.layout) (glass_ids vs), pick_sum' (eqb j i) (times j (ids v.layout)) (times j (glass_ids vs)))
    (let p = (less v.layout i).here j in let q = gone_times i j vs in omega arith)

pub gone_length : (i : ℕ) (vs : List Window) → length (glass_ids (windows_without i vs)) + times i (glass_ids vs) ≡ length (glass_ids vs)
unfolding times
gone_length i [] = refl
gone_length i (v ∷ vs) =
    rw (window_ids i v vs, length-append (flat ids (without v.layout i)) (glass_ids (windows_without i vs)), times_append i (ids v.layout) (glass_ids vs), length-append (ids v.layout) (glass_ids vs))
    (let p = (less v.layout i).long in let q = gone_length i vs in omega arith)

pub fewer : (i : ℕ) (vs : List Window) → length (windows_without i vs) ≤ length vs
fewer i [] = omega arith
fewer i (v ∷ vs) = rw (length-append (less_pane i v (without v.layout i)) (windows_without i vs)) (let p = one (without v.layout i) (without_few v.layout i) in let q = fewer i vs in omega arith)
  where
    one : (ls : List Layout) → length ls ≤ 1 → length (less_pane i v ls) ≤ 1
    one [] h = omega arith
    one (l ∷ ls) h = omega arith

pub pane_times : (i j : ℕ) (ps : List Pane) → times j (pane_ids (those (λ p. not (eqb p.id i)) ps)) ≡ pick (eqb j i) 0 (times j (pane_ids ps))
unfolding times
pane_times i j [] = gone_times i j []
pane_times i j (p ∷ ps) = go (cases_Bool (eqb p.id i)) (pane_times i j ps)
  where
    go : (eqb p.id i ≡ true) ⊎ (eqb p.id i ≡ false) → times j (pane_ids (those (λ p. not (eqb p.id i)) ps)) ≡ pick (eqb j i) 0 (times j (pane_ids ps)) →
        times j (pane_ids (those (λ p. not (eqb p.id i)) (p ∷ ps))) ≡ pick (eqb j i) 0 (pick (eqb j p.id) 1 0 + times j (pane_ids ps))
    go (inl e) h = let d = eqb-true p.id i e in rw (e, h, d) (grind (arith, nat_tests))
    go (inr e) h = let d = eqb-false p.id i e in rw (e, h) (grind (arith, nat_tests))

pub pane_length : (i : ℕ) (ps : List Pane) → length (those (λ p. not (eqb p.id i)) ps) + times i (pane_ids ps) ≡ length ps
unfolding times
pane_length i [] = refl
pane_length i (p ∷ ps) = go (cases_Bool (eqb p.id i)) (pane_length i ps)
  where
    go : (eqb p.id i ≡ true) ⊎ (eqb p.id i ≡ false) → length (those (λ p. not (eqb p.id i)) ps) + times i (pane_ids ps) ≡ length ps →
        length (those (λ p. not (eqb p.id i)) (p ∷ ps)) + (pick (eqb i p.id) 1 0 + times i (pane_ids ps)) ≡ suc (length ps)
    go (inl e) h = rw (e, eq-eqb i p.id (sym (eqb-true p.id i e))) (omega arith)
    go (inr e) h = rw (e, ne_eqb i p.id (λ z. eqb-false p.id i e (sym z))) (omega arith)

-- the focus
pub ids_some : (l : Layout) → 0 < length (ids l)
unfolding ids
ids_some (pane i) = omega arith
ids_some (beside a b) = rw (length-append (ids a) (ids b)) (let z = ids_some a in omega arith)
ids_some (above a b) = rw (length-append (ids a) (ids b)) (let z = ids_some a in omega arith)

pub first_there : (xs : List ℕ) → 0 < length xs → 0 < times (get_or xs 0 0) xs
unfolding times
first_there [] h = absurd (omega arith)
first_there (x ∷ xs) h = rw (eq-eqb x x refl) (omega arith)

pub focus_append : (vs ws : List Window) → Focused vs → Focused ws → Focused (vs ++ ws)
focus_append [] ws a b = b
focus_append (v ∷ vs) ws a b = (a.0, focus_append vs ws a.1 b)

pub gone_focus : (i : ℕ) (vs : List Window) → Focused vs → Focused (windows_without i vs)
gone_focus i [] f = f
gone_focus i (v ∷ vs) f = focus_append (less_pane i v (without v.layout i)) (windows_without i vs) (one (without v.layout i) (without_few v.layout i) (less v.layout i).here) (gone_focus i vs f.1)
  where
    one : (ls : List Layout) → length ls ≤ 1 → ((j : ℕ) → times j (flat ids ls) ≡ pick (eqb j i) 0 (times j (ids v.layout))) → Focused (less_pane i v ls)
    one [] h e = refl
    one (l ∷ l₁ ∷ ls) h e = absurd (omega arith)
    one (l ∷ []) h e = (go (cases_Bool (eqb v.focus i)), refl)
      where
        go : (eqb v.focus i ≡ true) ⊎ (eqb v.focus i ≡ false) → 0 < times (new_focus v.focus i l) (ids l)
        go (inl b) = rw b (first_there (ids l) (ids_some l))
        go (inr b) =
            let z : times v.focus (ids l ++ []) ≡ times v.focus (ids v.layout) = (rw b at (e v.focus)) in
            let y : times v.focus (ids l) ≡ times v.focus (ids v.layout) = (rw (append-nil (ids l)) at z) in
            rw b (let w = f.0 in omega arith)

-- A PANE IN TWO
pub put_times : (vs : List Window) (k : ℕ) (w : Window) (i : ℕ) → k < length vs → times i (glass_ids (put_at vs k w)) + times i (ids (window_at vs k).layout) ≡ times i (glass_ids vs) + times i (ids w.layout)
unfolding window_at
put_times [] k w i h = absurd (omega arith)
put_times (v ∷ vs) zero w i h = rw (times_append i (ids w.layout) (glass_ids vs), times_append i (ids v.layout) (glass_ids vs)) (omega arith)
put_times (v ∷ vs) (suc k) w i h = rw (times_append i (ids v.layout) (glass_ids (put_at vs k w)), times_append i (ids v.layout) (glass_ids vs)) (let z = put_times vs k w i (omega arith) in omega arith)

pub put_long : (vs : List Window) (k : ℕ) (w : Window) → k < length vs → (length (glass_ids (put_at vs k w)) + length (ids (window_at vs k).layout) ≡ length (glass_ids vs) + length (ids w.layout)) × (length (put_at vs k w) ≡ length vs)
unfolding window_at
put_long [] k w h = absurd (omega arith)
put_long (v ∷ vs) zero w h = (rw (length-append (ids w.layout) (glass_ids vs), length-append (ids v.layout) (glass_ids vs)) (omega arith), refl)
put_long (v ∷ vs) (suc k) w h = let z = put_long vs k w (omega arith) in (rw (length-append (ids v.layout) (glass_ids (put_at vs k w)), length-append (ids v.layout) (glass_ids vs)) (omega arith), ap suc z.1)

pub put_focus : (vs : List Window) (k : ℕ) (w : Window) → Focused vs → 0 < times w.focus (ids w.layout) → Focused (put_at vs k w)
put_focus [] k w f h = f
put_focus (v ∷ vs) zero w f h = (h, f.1)
put_focus (v ∷ vs) (suc k) w f h = (f.0, put_focus vs k w f.1 h)

pub at_focus : (vs : List Window) (k : ℕ) → k < length vs → Focused vs → (i : ℕ) → (0 < times (window_at vs k).focus (ids (window_at vs k).layout)) × (times i (ids (window_at vs k).layout) ≤ times i (glass_ids vs))
unfolding window_at
at_focus [] k h f i = absurd (omega arith)
at_focus (v ∷ vs) zero h f i = (f.0, rw (times_append i (ids v.layout) (glass_ids vs)) (omega arith))
at_focus (v ∷ vs) (suc k) h f i = let z = at_focus vs k (omega arith) f.1 i in (z.0, rw (times_append i (ids v.layout) (glass_ids vs)) (omega arith))
