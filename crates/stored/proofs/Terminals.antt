-- What is kept of each pane's terminal by all that can come: it is sound at its size, its cells can be drawn, and its numbers are small.
use Rattle.std.proofs.Common.{◌≡◌, ℕ, zero, suc, ◌^◌, ◌≤◌, Bool, eqb, List, [], ◌∷◌, refl, arith}
use Rattle.std.specs.List.{AllByRecursion}
use Rattle.std.proofs.ByRecursion.{All-append}
use Rattle.meaning.specs.Words.{each, those, flat}
use Rattle.meaning.specs.Screen.{Term, fresh, fitted, with_answer}
use Rattle.meaning.specs.Bytes.{written}
use Rattle.meaning.specs.Panes.{Glass, Window, Place, Pane, Rect, places, set_term, pane_wide, pane_high, pane_fitted, room, all_places, on_bytes}
use Rattle.meaning.proofs.Controls.{pick_both}
use Rattle.meaning.proofs.Sound.{Sound, sound_written, sound_fitted, sound_fresh}
use Rattle.meaning.proofs.Readings.{held_written}
use Rattle.meaning.proofs.Drawable.{Fine, fine_written, fine_fresh, fine_fitted, fine_answer}
use Rattle.engine.proofs.Good.{Reads, fitted_reads, fresh_reads}
use Rattle.engine.proofs.Pictures.{In, in_self, places_in}

pub record PaneGood (p : Pane) : Type 0 where
  pub wide_of : ℕ
  pub high_of : ℕ
  pub some_wide : 1 ≤ wide_of
  pub wide : wide_of ≤ 200
  pub some_high : 1 ≤ high_of
  pub high : high_of ≤ 60
  pub sound : Sound wide_of high_of p.term
  pub fine : Fine p.term
  pub reads : Reads p.term
  pub silent : p.term.answer ≡ []

-- sizes that a pane can have on a screen of at most 200 x 60
pub record SmallPlace (r : Rect) : Type 0 where
  pub wide : pane_wide r ≤ 200
  pub high : pane_high r ≤ 60

pub small_in : (r s : Rect) → s.x ≡ 0 → s.y ≡ 0 → s.wide ≤ 200 → s.high ≤ 60 → In r s → SmallPlace r
small_in r s x y w h i = record { wide = low_wide r.wide refl; high = low_high r.high refl }
  where
    low_wide : (k : ℕ) → r.wide ≡ k → pane_wide r ≤ 200
    low_wide zero e = omega arith
    low_wide (suc k) e = let z = i.right (omega arith) in omega arith

    low_high : (k : ℕ) → r.high ≡ k → pane_high r ≤ 60
    low_high zero e = omega arith
    low_high (suc k) e = let z = i.down (omega arith) in omega arith

-- all places of a glass
pub places_small : (g : Glass) → g.wide ≤ 200 → g.high ≤ 60 → AllByRecursion (λ q. SmallPlace q.rect) (all_places g)
places_small g w h = go g.windows
  where
    weaker : (qs : List Place) → AllByRecursion (λ q. In q.rect (room g)) qs → AllByRecursion (λ q. SmallPlace q.rect) qs
    weaker [] f = tt
    weaker (q ∷ qs) f = (small_in q.rect (room g) refl refl w (omega arith) f.0, weaker qs f.1)

    go : (vs : List Window) → AllByRecursion (λ q. SmallPlace q.rect) (flat (λ v. places v.layout (room g)) vs)
    go [] = tt
    go (v ∷ vs) = All-append (λ q. SmallPlace q.rect) _ _ (weaker _ (places_in v.layout (room g) (room g) (in_self (room g)))) (go vs)

pub those_all : {A : Type 0} (P : A → Type 0) (b : A → Bool) (xs : List A) → AllByRecursion P xs → AllByRecursion P (those b xs)
those_all P b [] f = tt
those_all P b (x ∷ xs) f = pick_both (AllByRecursion P) (b x) _ _ (f.0, those_all P b xs f.1) (those_all P b xs f.1)

-- a pane that comes up, that gets another size, and to which bytes are written
pub fresh_good : (i : ℕ) (r : Rect) → SmallPlace r → PaneGood (record { id = i; term = fresh (pane_wide r) (pane_high r) })
fresh_good i r s = record {
  wide_of = pane_wide r;
  high_of = pane_high r;
  some_wide = omega arith;
  wide = s.wide;
  some_high = omega arith;
  high = s.high;
  sound = sound_fresh (pane_wide r) (pane_high r) (omega arith) (omega arith);
  fine = fine_fresh (pane_wide r) (pane_high r);
  reads = fresh_reads (pane_wide r) (pane_high r);
  silent = refl;
}

fitted_good : (p : Pane) (r : Rect) → SmallPlace r → PaneGood p → PaneGood (record { id = p.id; term = fitted p.term (pane_wide r) (pane_high r) })
fitted_good p r s o = record {
  wide_of = pane_wide r;
  high_of = pane_high r;
  some_wide = omega arith;
  wide = s.wide;
  some_high = omega arith;
  high = s.high;
  sound = sound_fitted (pane_wide r) (pane_high r) p.term (omega arith) (omega arith);
  fine = fine_fitted p.term (pane_wide r) (pane_high r) o.fine;
  reads = fitted_reads p.term (pane_wide r) (pane_high r) o.reads;
  silent = o.silent;
}

pub fit_good : (ps : List Pane) (q : Place) → SmallPlace q.rect → AllByRecursion PaneGood ps → AllByRecursion PaneGood (pane_fitted ps q)
fit_good [] q s f = tt
fit_good (p ∷ ps) q s f = (pick_both PaneGood _ _ p (fitted_good p q.rect s f.0) f.0, fit_good ps q s f.1)

written_good : (i : ℕ) (p : Pane) (bs : List ℕ) → PaneGood p → PaneGood (record { id = i; term = with_answer (written p.term bs) [] })
written_good i p bs o =
    let r = held_written o.wide_of o.high_of (λ s. Unit {0}) tt (λ s k e. tt) 9999 (2 ^ 64) (2 ^ 64) (omega arith) (let h = o.high in omega arith) (let w = o.wide in omega arith) p.term bs o.sound o.reads in
    record {
      wide_of = o.wide_of;
      high_of = o.high_of;
      some_wide = o.some_wide;
      wide = o.wide;
      some_high = o.some_high;
      high = o.high;
      sound = sound_written o.wide_of o.high_of p.term bs o.sound;
      fine = fine_answer (written p.term bs) [] (fine_written p.term bs o.fine);
      reads = r;
      silent = refl;
    }

set_good : (i : ℕ) (t : Term) (ps : List Pane) → PaneGood (record { id = i; term = t }) → AllByRecursion PaneGood ps → AllByRecursion PaneGood (each (set_term i t) ps)
set_good i t [] o f = tt
set_good i t (p ∷ ps) o f = (pick_both PaneGood (eqb p.id i) _ p o f.0, set_good i t ps o f.1)

pub bytes_good : (g : Glass) (i : ℕ) (bs : List ℕ) (ps : List Pane) → AllByRecursion PaneGood ps → AllByRecursion PaneGood g.panes → AllByRecursion PaneGood (on_bytes g i bs ps).next.panes
unfolding on_bytes
bytes_good g i bs [] o f = f
bytes_good g i bs (p ∷ ps) o f = set_good i (with_answer (written p.term bs) []) g.panes (written_good i p bs o.0) f
