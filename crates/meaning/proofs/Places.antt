-- The places of a layout: they don't overlap, and none sticks out.
use Rattle.std.proofs.Common.{◌≡◌, ℕ, zero, suc, ◌+◌, ◌<◌, ◌≤◌, true, false, ◌&&◌, ltb, leb, ◌⊎◌, List, [], ◌∷◌, ◌++◌, inl, inr, arith}
use Rattle.std.proofs.lemmas.Bool.{lt-ltb, le-leb, and_parts, leb-true, ltb-true, cases_Bool}
use Rattle.meaning.specs.Words.{pick}
use Rattle.meaning.specs.Panes.{pane, beside, above, Rect, Place, places, left_of, right_of, upper_of, lower_of}
use Rattle.meaning.specs.Laws.{covers, how_often, Shared}

-- what it is for a part of the screen to have a cell
pub record Covers (r : Rect) (x y : ℕ) : Type 0 where
  pub left : r.x ≤ x
  pub right : x < r.x + r.wide
  pub up : r.y ≤ y
  pub down : y < r.y + r.high

pub covers_parts : (r : Rect) (x y : ℕ) → covers r x y ≡ true → Covers r x y
unfolding covers
covers_parts r x y e =
    let p = and_parts (leb r.x x && ltb x (r.x + r.wide)) _ e in
    let q = and_parts (leb r.x x) _ p.0 in
    let s = and_parts (leb r.y y) _ p.1 in
    record { left = leb-true _ _ q.0; right = ltb-true _ _ q.1; up = leb-true _ _ s.0; down = ltb-true _ _ s.1 }

pub covers_from : (r : Rect) (x y : ℕ) → Covers r x y → covers r x y ≡ true
unfolding covers
covers_from r x y c = rw (le-leb _ _ c.left, lt-ltb _ _ c.right, le-leb _ _ c.up, lt-ltb _ _ c.down)

how_append : (ps qs : List Place) (x y : ℕ) → how_often (ps ++ qs) x y ≡ how_often ps x y + how_often qs x y
unfolding how_often
how_append [] qs x y = omega arith
how_append (p ∷ ps) qs x y = let e = how_append ps qs x y in omega arith

-- n places at most one, and only within r
OkAt : ℕ → Rect → ℕ → ℕ → Type 0
OkAt n r x y = (n ≤ 1) × (0 < n → covers r x y ≡ true)

-- two parts of one part of the screen that do not meet
parts : (m n : ℕ) (a b r : Rect) (x y : ℕ) → OkAt m a x y → OkAt n b x y → (Covers a x y → Covers b x y → ⊥) → (Covers a x y → Covers r x y) → (Covers b x y → Covers r x y) → OkAt (m + n) r x y
unfolding OkAt
parts zero n a b r x y p q d f g = (let z = q.0 in omega arith, λ h. covers_from r x y (g (covers_parts b x y (q.1 (omega arith)))))
parts (suc m) zero a b r x y p q d f g = (let z = p.0 in omega arith, λ h. covers_from r x y (f (covers_parts a x y (p.1 (omega arith)))))
parts (suc m) (suc n) a b r x y p q d f g = absurd (d (covers_parts a x y (p.1 (omega arith))) (covers_parts b x y (q.1 (omega arith))))

pub shared : Shared
unfolding OkAt places how_often
shared (pane i) r x y = go (cases_Bool (covers r x y))
  where
    go : (covers r x y ≡ true) ⊎ (covers r x y ≡ false) → (pick (covers r x y) 1 0 + 0 ≤ 1) × (0 < pick (covers r x y) 1 0 + 0 → covers r x y ≡ true)
    go (inl e) = (rw e (omega arith), λ _. e)
    go (inr e) = (rw e (omega arith), λ h. absurd (let z : 0 < pick false 1 0 + 0 = (rw e at h) in omega arith))
shared (beside a b) r x y =
    rw (how_append (places a (left_of r)) (places b (right_of r)) x y)
    (parts _ _ (left_of r) (right_of r) r x y (shared a (left_of r) x y) (shared b (right_of r) x y)
    (λ c d. let p = c.right in let q = d.left in omega arith)
    (λ c. let p = c.right in record { left = c.left; right = omega arith; up = c.up; down = c.down })
    (λ c. let p = c.right in let q = c.left in record { left = omega arith; right = omega arith; up = c.up; down = c.down }))
shared (above a b) r x y =
    rw (how_append (places a (upper_of r)) (places b (lower_of r)) x y)
    (parts _ _ (upper_of r) (lower_of r) r x y (shared a (upper_of r) x y) (shared b (lower_of r) x y)
    (λ c d. let p = c.down in let q = d.up in omega arith)
    (λ c. let p = c.down in record { left = c.left; right = c.right; up = c.up; down = omega arith })
    (λ c. let p = c.down in let q = c.up in record { left = c.left; right = c.right; up = omega arith; down = omega arith }))
