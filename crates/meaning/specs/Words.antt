-- The words on truth values, numbers and lists that the other definitions use. Most are the library's own under the name that reads better here.
use Rattle.std.specs.Prelude.{ℕ, min, max, Bool, true, false, cond, ◌&&◌, ◌||◌, List, [], ◌∷◌, ◌++◌, map, replicate, slice_set}

-- the first of two where the test holds, else the second
abbrev pub pick : {A : Type 0} → Bool → A → A → A
pick b x y = cond b x y

abbrev pub or : Bool → Bool → Bool
or a b = a || b

abbrev pub smaller : ℕ → ℕ → ℕ
smaller a b = min a b

abbrev pub larger : ℕ → ℕ → ℕ
larger a b = max a b

-- a list of n times x
abbrev pub so_many : {A : Type 0} → ℕ → A → List A
so_many n x = replicate n x

-- y in place k of a list, which stays as it is where it has no such place
abbrev pub put_at : {A : Type 0} → List A → ℕ → A → List A
put_at xs k y = slice_set xs k y

abbrev pub each : {A B : Type 0} → (A → B) → List A → List B
each f xs = map f xs

abbrev pub every : {A : Type 0} → (A → Bool) → List A → Bool
every p [] = true
every p (x ∷ xs) = p x && every p xs

abbrev pub any : {A : Type 0} → (A → Bool) → List A → Bool
any p [] = false
any p (x ∷ xs) = or (p x) (any p xs)

-- the elements for which the test holds
abbrev pub those : {A : Type 0} → (A → Bool) → List A → List A
those p [] = []
those p (x ∷ xs) = pick (p x) (x ∷ those p xs) (those p xs)

-- what each element gives, one after the other
abbrev pub flat : {A B : Type 0} → (A → List B) → List A → List B
flat f [] = []
flat f (x ∷ xs) = f x ++ flat f xs

abbrev pub none_of : {A : Type 0} → List A → Bool
none_of [] = true
none_of (x ∷ xs) = false
