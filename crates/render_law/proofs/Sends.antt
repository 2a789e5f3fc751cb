-- A go cell by cell: what every cell that is sent keeps, the whole go keeps.
use Rattle.std.proofs.Common.{◌≡◌, ℕ, ◌+◌, ◌*◌, ◌/◌, ◌%◌, ◌<◌, ◌≤◌, Bool, true, false, ◌&&◌, eqb, leb, ◌⊎◌, List, [], ◌∷◌, ◌++◌, length, get_or, set, inl, inr, arith}
use Rattle.std.proofs.lemmas.Bool.{and_parts, eqb-true, eq-eqb, cases_Bool}
use Rattle.meaning.specs.Words.{every}
use Rattle.render.specs.Pens.{rendition_of, pen_after}
use Rattle.render.specs.Draw.{Go, drawn, drawn_from, drawn_cell, at_start, cell_bytes}
use Rattle.render.specs.declared.pen.Pen.{Pen}

-- cell i sent as p
abbrev pub sent : ℕ → ℕ → ℕ → Go → Go
sent w i p s =
    record { screen = set s.screen i p; pen = pen_after w s.pen (i / w) (i % w) (rendition_of p); bytes = s.bytes ++ cell_bytes s.pen (i / w) (i % w) p }

-- a cell is left as it is, or it differs and there is room
pub cell_cases : (P : Go → Type 0) (w room i p : ℕ) (s : Go) → P s
    → (eqb (get_or s.screen i 0) p ≡ false → leb (length s.bytes + 32) room ≡ true → P (sent w i p s)) → P (drawn_cell w room i p s)
unfolding drawn_cell
cell_cases P w room i p s q f = go (cases_Bool (eqb (get_or s.screen i 0) p)) (cases_Bool (leb (length s.bytes + 32) room))
  where
    go : (eqb (get_or s.screen i 0) p ≡ true) ⊎ (eqb (get_or s.screen i 0) p ≡ false)
        → (leb (length s.bytes + 32) room ≡ true) ⊎ (leb (length s.bytes + 32) room ≡ false) → P (drawn_cell w room i p s)
    go (inl x) y = rw x q
    go (inr x) (inl y) = rw (x, y) (f x y)
    go (inr x) (inr y) = rw (x, y) q

module _ (P : Go → Type 0) (f : ℕ → Bool) (w room n : ℕ) (step : (i p : ℕ) (s : Go) → i < n → f p ≡ true → P s → P (sent w i p s)) where
  from_keeps : (i : ℕ) (ps : List ℕ) (s : Go) → i + length ps ≤ n → every f ps ≡ true → P s → P (drawn_from w room ps i s)
  unfolding drawn_from
  from_keeps i [] s l e q = q
  from_keeps i (p ∷ ps) s l e q =
      let a = and_parts (f p) _ e in
      from_keeps (i + 1) ps (drawn_cell w room i p s) (omega arith) a.1 (cell_cases P w room i p s q (λ _ _. step i p s (omega arith) a.0 q))

  pub drawn_keeps : (h : ℕ) (pic screen : List ℕ) (pen : Pen) → n ≡ h * w → every f pic ≡ true → P (at_start screen pen) → P (drawn w h pic room screen pen)
  unfolding drawn
  drawn_keeps h pic screen pen e a q = go (cases_Bool (eqb (length screen) (h * w) && eqb (length pic) (h * w)))
    where
      go : ((eqb (length screen) (h * w) && eqb (length pic) (h * w)) ≡ true) ⊎ ((eqb (length screen) (h * w) && eqb (length pic) (h * w)) ≡ false)
          → P (drawn w h pic room screen pen)
      go (inl x) =
          let l = eqb-true (length pic) (h * w) (and_parts (eqb (length screen) (h * w)) _ x).1 in
          rw x (from_keeps 0 pic (at_start screen pen) (omega arith) a q)
      go (inr x) = rw x q

-- with the sizes that fit, a go is what the cells make
pub drawn_is : (w h room : ℕ) (pic screen : List ℕ) (pen : Pen) → length screen ≡ h * w → length pic ≡ h * w
    → drawn w h pic room screen pen ≡ drawn_from w room pic 0 (at_start screen pen)
unfolding drawn
drawn_is w h room pic screen pen n l = rw (eq-eqb (length screen) (h * w) n, eq-eqb (length pic) (h * w) l)
