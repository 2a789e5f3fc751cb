-- What any go keeps, whatever picture, screen and pen are.
use Rattle.std.proofs.Common.{◌≡◌, ℕ, zero, suc, ◌+◌, ◌*◌, ◌/◌, ◌%◌, ◌^◌, ◌<◌, Bool, true, ltb, List, [], ◌∷◌, length, set, refl, ◌∙◌, arith, length-set}
use Rattle.std.proofs.lemmas.Bool.{and_parts, and_from, ltb-true}
use Rattle.std.proofs.lemmas.Bool.Decides.{nat_tests}
use Rattle.meaning.specs.Words.{pick, every}
use Rattle.render.specs.Pens.{rendition_of, pen_after}
use Rattle.render.specs.Draw.{drawn}
use Rattle.render.specs.declared.pen.Pen.{Pen}
use Rattle.render_law.specs.Law.{Fits, Keeps}
use Rattle.render_law.proofs.Cells.{place_of}
use Rattle.render_law.proofs.Sends.{drawn_keeps}

every_all : (xs : List ℕ) → every (λ _. true) xs ≡ true
every_all [] = refl
every_all (x ∷ xs) = every_all xs

every_set : (f : ℕ → Bool) (xs : List ℕ) (i y : ℕ) → every f xs ≡ true → f y ≡ true → every f (set xs i y) ≡ true
every_set f [] i y a b = a
every_set f (x ∷ xs) zero y a b = and_from (f y) (every f xs) b (and_parts (f x) (every f xs) a).1
every_set f (x ∷ xs) (suc i) y a b =
    let q = and_parts (f x) (every f xs) a in
    and_from (f x) (every f (set xs i y)) q.0 (every_set f xs i y q.1 b)

-- after a character the cursor is still on the screen
column_stays : (w c : ℕ) → c < w → pick (ltb (c + 1) w) (c + 1) c < w
column_stays w c l = grind (arith, nat_tests)

pen_fits : (w h i p : ℕ) (pen : Pen) → 0 < w → i < h * w → ltb p (2 ^ 64) ≡ true → Fits w h (pen_after w pen (i / w) (i % w) (rendition_of p))
pen_fits w h i p pen z l e =
    let q = place_of w h i z l in
    let s = ltb-true p (2 ^ 64) e in
    record { row = q.0; col = column_stays w (i % w) q.1; marks = omega arith; fore = omega arith; back = omega arith }

pub drawn_all_keeps : (w h room : ℕ) (pic screen : List ℕ) (pen : Pen) → Keeps w h pic screen pen (drawn w h pic room screen pen)
drawn_all_keeps w h room pic screen pen = record {
  long =
      drawn_keeps (λ s. length s.screen ≡ length screen) (λ _. true) w room (h * w) (λ i p s _ _ q. length-set s.screen i p ∙ q) h pic screen pen refl
      (every_all pic) refl;
  cells = λ f b a c.
      drawn_keeps (λ s. every f s.screen ≡ true) f w room (h * w) (λ i p s _ e q. every_set f s.screen i p q e) h pic screen pen refl c a;
  fits = λ q e.
      drawn_keeps (λ s. Fits w h s.pen) (λ x. ltb x (2 ^ 64)) w room (h * w)
      (λ i p s l f o. pen_fits w h i p s.pen (let z = o.col in omega arith) l f) h pic screen pen refl e q;
}
