-- What stands in one area after another has been written over.
use Rattle.std.proofs.Common.{◌≡◌, ℕ, zero, suc, ◌+◌, ◌-◌, ◌%◌, ◌^◌, ◌≤◌, Bool, true, ltb, List, [], ◌∷◌, ◌++◌, length, take, drop, sym, refl, ap, ◌∙◌, append_assoc, arith, length-append, length-drop, length-take}
use Rattle.std.proofs.lemmas.List.{take_at, drop_at, drop-drop, drop-append-le, take-append-le, take-take, drop-take, take_all, length-take-le}
use Rattle.std.proofs.lemmas.Bool.{and_parts, and_from, ltb-true, lt-ltb}
use Rattle.meaning.specs.Words.{every}
use Rattle.engine.specs.Areas.{part, over, cut64, put}

pub length_over : (m : List ℕ) (a : ℕ) (xs : List ℕ) → a + length xs ≤ length m → length (over m a xs) ≡ length m
length_over m a xs h =
    let l = length-take-le a m (omega arith) in
    let l₁ = length-append (take a m) (xs ++ drop (length xs) (drop a m)) in
    let l₂ = length-append xs (drop (length xs) (drop a m)) in
    let l₃ = length-drop (length xs) (drop a m) in
    let l₄ = length-drop a m in
    omega arith

-- the area itself
pub part_over : (m : List ℕ) (a : ℕ) (xs : List ℕ) → a ≤ length m → part (over m a xs) a (length xs) ≡ xs
part_over m a xs h =
    ap (take (length xs)) (drop_at (take a m) (xs ++ drop (length xs) (drop a m)) a (length-take-le a m h)) ∙ take_at xs (drop (length xs) (drop a m)) (length xs) refl

-- one below it
pub part_over_below : (m : List ℕ) (a : ℕ) (xs : List ℕ) (b n : ℕ) → a ≤ length m → b + n ≤ a → part (over m a xs) b n ≡ part m b n
part_over_below m a xs b n h k =
    let y : List ℕ = xs ++ drop (length xs) (drop a m) in
    let l = length-take-le a m h in
    let l₁ = length-drop b (take a m) in
    let e : b + (a - b) ≡ a = omega arith in
    ap (take n) (drop-append-le b (take a m) y (omega arith))
    ∙ (take-append-le n (drop b (take a m)) y (omega arith)
    ∙ (ap (λ (z : ℕ). take n (drop b (take z m))) (sym e)
    ∙ (ap (take n) (drop-take b (a - b) m) ∙ take-take n (a - b) (drop b m) (omega arith))))

-- one above it
pub part_over_above : (m : List ℕ) (a : ℕ) (xs : List ℕ) (b n : ℕ) → a ≤ length m → a + length xs ≤ b → part (over m a xs) b n ≡ part m b n
part_over_above m a xs b n h k =
    let l = length-take-le a m h in
    let l₁ = length-append (take a m) xs in
    let rest : List ℕ = drop (length xs) (drop a m) in
    let e : (a + length xs) + (b - (a + length xs)) ≡ b = omega arith in
    let d : drop (a + length xs) (over m a xs) ≡ drop (a + length xs) m =
    ap (drop (a + length xs)) (sym (append_assoc (take a m) xs rest)) ∙ (drop_at (take a m ++ xs) rest (a + length xs) (omega arith) ∙ drop-drop (length xs) a m) in
    ap (take n)
    (ap (λ (z : ℕ). drop z (over m a xs)) (sym e)
    ∙ (sym (drop-drop (b - (a + length xs)) (a + length xs) (over m a xs))
    ∙ (ap (drop (b - (a + length xs))) d
    ∙ (drop-drop (b - (a + length xs)) (a + length xs) m ∙ ap (λ (z : ℕ). drop z m) e))))

-- numbers that are small stay so
pub every_append : {A : Type 0} (p : A → Bool) (xs ys : List A) → every p xs ≡ true → every p ys ≡ true → every p (xs ++ ys) ≡ true
every_append p [] ys e f = f
every_append p (x ∷ xs) ys e f = let a = and_parts (p x) _ e in and_from (p x) _ a.0 (every_append p xs ys a.1 f)

pub every_take : {A : Type 0} (p : A → Bool) (n : ℕ) (xs : List A) → every p xs ≡ true → every p (take n xs) ≡ true
every_take p zero xs e = refl
every_take p (suc n) [] e = refl
every_take p (suc n) (x ∷ xs) e = let a = and_parts (p x) _ e in and_from (p x) _ a.0 (every_take p n xs a.1)

pub every_drop : {A : Type 0} (p : A → Bool) (n : ℕ) (xs : List A) → every p xs ≡ true → every p (drop n xs) ≡ true
every_drop p zero xs e = e
every_drop p (suc n) [] e = refl
every_drop p (suc n) (x ∷ xs) e = every_drop p n xs (and_parts (p x) _ e).1

pub every_over : (p : ℕ → Bool) (m : List ℕ) (a : ℕ) (xs : List ℕ) → every p m ≡ true → every p xs ≡ true → every p (over m a xs) ≡ true
every_over p m a xs e f =
    every_append p (take a m) _ (every_take p a m e) (every_append p xs _ f (every_drop p (length xs) (drop a m) (every_drop p a m e)))

-- a memory that never grows
cut_small : (xs : List ℕ) → every (λ x. ltb x (2 ^ 64)) xs ≡ true → cut64 xs ≡ xs
cut_small [] e = refl
cut_small (x ∷ xs) e =
    let a = and_parts (ltb x (2 ^ 64)) _ e in
    let h = ltb-true _ _ a.0 in
    let b : x % 2 ^ 64 ≡ x = omega arith in
    let c = cut_small xs a.1 in
    rw (b, c)

small_cut : (xs : List ℕ) → every (λ x. ltb x (2 ^ 64)) (cut64 xs) ≡ true
small_cut [] = refl
small_cut (x ∷ xs) = and_from _ _ (lt-ltb (x % 2 ^ 64) (2 ^ 64) (omega arith)) (small_cut xs)

pub put_over : (m : List ℕ) (a : ℕ) (xs : List ℕ) → a + length xs ≤ length m → every (λ x. ltb x (2 ^ 64)) xs ≡ true → put m a xs ≡ over m a xs
unfolding put
put_over m a xs h e =
    ap (λ (ys : List ℕ). take (length m) (over m a ys)) (cut_small xs e) ∙ take_all (length m) (over m a xs) (let l = length_over m a xs h in omega arith)

pub length_put : (m : List ℕ) (a : ℕ) (xs : List ℕ) → length (put m a xs) ≡ length m
unfolding put
length_put m a xs =
    let ys = cut64 xs in
    let l₀ = length-take a m in
    let l₁ = length-append (take a m) (ys ++ drop (length ys) (drop a m)) in
    let l₂ = length-append ys (drop (length ys) (drop a m)) in
    let l₃ = length-drop (length ys) (drop a m) in
    let l₄ = length-drop a m in
    length-take (length m) (over m a ys) ∙ omega arith

pub small_put : (m : List ℕ) (a : ℕ) (xs : List ℕ) → every (λ x. ltb x (2 ^ 64)) m ≡ true → every (λ x. ltb x (2 ^ 64)) (put m a xs) ≡ true
unfolding put
small_put m a xs e = every_take (λ x. ltb x (2 ^ 64)) (length m) _ (every_over (λ x. ltb x (2 ^ 64)) m a (cut64 xs) e (small_cut xs))
