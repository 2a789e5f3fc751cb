-- A header can hold every terminal that is loaded or comes about: its numbers stay in range whatever is written.
use Rattle.std.proofs.Common.{◌≡◌, ℕ, zero, suc, ◌^◌, ◌<◌, ◌≤◌, true, ◌&&◌, eqb, ltb, leb, List, [], ◌∷◌, length, get_or, arith, length-take}
use Rattle.std.specs.List.{AllByRecursion}
use Rattle.std.proofs.ByRecursion.{All-weaker, All-take}
use Rattle.std.proofs.lemmas.Bool.{and_parts, ltb-true, leb-true, cond_both}
use Rattle.std.proofs.lemmas.Bool.Decides.{nat_tests, Decides-ltb}
use Rattle.meaning.specs.Screen.{Style, Term, Reading, ground_state, escape, sequence, passed, string, string_end, marked, styled_one, fresh, fitted}
use Rattle.meaning.specs.Bytes.{written}
use Rattle.meaning.specs.Promise.{all_small}
use Rattle.meaning.proofs.Controls.{pick_both}
use Rattle.meaning.proofs.Edits.{decides_every}
use Rattle.meaning.proofs.Sound.{Sound, good_sound, sound_written, sound_fitted, sound_fresh}
use Rattle.meaning.proofs.Readings.{Short, Held, held_written, held_fitted, held_fresh}
use Rattle.header.specs.Header.{yes, style_from, size_fits, cursor_fits, region_fits, parameters_at, reading_fits, begun_from, reading_from, header_fits, term_from, StyleFits, ReadingFits, InRange, LoadedInRange, StaysInRange, FittedInRange, FreshInRange}

-- styles
style_marked : (s : Style) (m : ℕ) → StyleFits s → m < 2 ^ 16 → StyleFits (marked s m)
style_marked s m f h = (h, f.1, f.2)

styled_one_fits : (s : Style) (n : ℕ) → StyleFits s → StyleFits (styled_one s n)
styled_one_fits s n f =
    let m : s.marks < 2 ^ 16 = f.0 in
    pick_both StyleFits (eqb n 0) _ _ (omega arith, omega arith, omega arith)
    (pick_both StyleFits (eqb n 1) _ _ (style_marked s _ f (grind (arith, nat_tests))) (pick_both StyleFits (eqb n 4) _ _ (style_marked s _ f (grind (arith, nat_tests)))
    (pick_both StyleFits (eqb n 7) _ _ (style_marked s _ f (grind (arith, nat_tests))) (pick_both StyleFits (eqb n 22) _ _ (style_marked s _ f (grind (arith, nat_tests)))
    (pick_both StyleFits (eqb n 24) _ _ (style_marked s _ f (grind (arith, nat_tests))) (pick_both StyleFits (eqb n 27) _ _ (style_marked s _ f (grind (arith, nat_tests)))
    (cond_both (leb 30 n && leb n 37) _ _ StyleFits (λ e. let p = leb-true n 37 (and_parts (leb 30 n) _ e).1 in (m, omega arith, f.2))
    (λ _. pick_both StyleFits (eqb n 39) _ _ (m, omega arith, f.2)
    (cond_both (leb 40 n && leb n 47) _ _ StyleFits (λ e. let p = leb-true n 47 (and_parts (leb 40 n) _ e).1 in (m, f.1, omega arith))
    (λ _. pick_both StyleFits (eqb n 49) _ _ (m, f.1, omega arith) f))))))))))

style_from_fits : (n : ℕ) → n < 2 ^ 64 → StyleFits (style_from n)
style_from_fits n h = (omega arith, omega arith, omega arith)

-- readings
fits_short : (r : Reading) → ReadingFits r → Short 65535 r
fits_short ground_state f = tt
fits_short escape f = tt
fits_short (sequence private ps now) f =
    let below : (n : ℕ) → n < 65536 → n ≤ 65535 = λ n h. omega arith in
    (f.0, All-weaker (λ n. n < 65536) (λ n. n ≤ 65535) below ps f.1, f.2, All-weaker (λ n. n < 65536) (λ n. n ≤ 65535) below now f.3)
fits_short passed f = tt
fits_short string f = tt
fits_short string_end f = tt

short_fits : (most : ℕ) (r : Reading) → most ≤ 65535 → Short most r → ReadingFits r
short_fits most ground_state m f = tt
short_fits most escape m f = tt
short_fits most (sequence private ps now) m f =
    let below : (n : ℕ) → n ≤ most → n < 65536 = λ n h. omega arith in
    (f.0, All-weaker (λ n. n ≤ most) (λ n. n < 65536) below ps f.1, f.2, All-weaker (λ n. n ≤ most) (λ n. n < 65536) below now f.3)
short_fits most passed m f = tt
short_fits most string m f = tt
short_fits most string_end m f = tt

-- what a sound screen of a size that is allowed has to hold
pub in_range_from :
    (w h most rows cols : ℕ) (t : Term) → 0 < w → w ≤ 200 → 0 < h → h ≤ 60 → most ≤ 65535 → rows ≤ 2 ^ 64 → cols ≤ 2 ^ 64 → Sound w h t →
    Held StyleFits most rows cols t → InRange t
in_range_from w h most rows cols t a b c d m r k s e =
    record {
      some_wide = omega arith;
      narrow = omega arith;
      some_high = omega arith;
      low = omega arith;
      on_row = omega arith;
      on_col = omega arith;
      ordered = s.ordered;
      inside = omega arith;
      writes = e.writes;
      saved_row = omega arith;
      saved_col = omega arith;
      saves = e.saves;
      reads = short_fits most t.reading m e.short;
    }

-- the widest bounds
abbrev Within : Term → Type 0
Within t = Held StyleFits 65535 (2 ^ 64) (2 ^ 64) t

in-range-within : (w h : ℕ) (t : Term) → 0 < w → w ≤ 200 → 0 < h → h ≤ 60 → Sound w h t → Within t → InRange t
in-range-within w h t a b c d s e = in_range_from w h 65535 (2 ^ 64) (2 ^ 64) t a b c d (omega arith) (omega arith) (omega arith) s e

within : (t : Term) → InRange t → Within t
within t f = record { writes = f.writes; saves = f.saves; saved_row = f.saved_row; saved_col = f.saved_col; short = fits_short t.reading f.reads }

plain_fits : (0 < 2 ^ 16) × (9 < 2 ^ 8) × (9 < 2 ^ 8)
plain_fits = (omega arith, omega arith, omega arith)

module _ (w h : ℕ) (narrow : w ≤ 200) (low : h ≤ 60) where
  written_within : (t : Term) (cs : List ℕ) → Sound w h t → Within t → Within (written t cs)
  written_within = held_written w h StyleFits plain_fits styled_one_fits 65535 (2 ^ 64) (2 ^ 64) (omega arith) (omega arith) (omega arith)

  fitted_within : 1 ≤ w → 1 ≤ h → (t : Term) → StyleFits t.style → Short 65535 t.reading → Within (fitted t w h)
  fitted_within = held_fitted w h StyleFits plain_fits styled_one_fits 65535 (2 ^ 64) (2 ^ 64) (omega arith) (omega arith) (omega arith)

  fresh_within : 1 ≤ w → 1 ≤ h → (x y : ℕ) → Within (fresh x y)
  fresh_within = held_fresh w h StyleFits plain_fits styled_one_fits 65535 (2 ^ 64) (2 ^ 64) (omega arith) (omega arith) (omega arith)

pub stays_in_range : StaysInRange
stays_in_range t cs g f =
    let w = t.wide in
    let h = t.high in
    let s : Sound w h t = good_sound t g in
    in-range-within w h (written t cs) f.some_wide f.narrow f.some_high f.low (sound_written w h t cs s) (written_within w h f.narrow f.low t cs s (within t f))

pub fitted_in_range : FittedInRange
fitted_in_range t w h a b c d f =
    in-range-within w h (fitted t w h) a b c d (sound_fitted w h t a c) (fitted_within w h b d a c t f.writes (fits_short t.reading f.reads))

pub fresh_in_range : FreshInRange
fresh_in_range w h a b c d = in-range-within w h (fresh w h) a b c d (sound_fresh w h a c) (fresh_within w h b d a c w h)

-- what is loaded
small_at : (m : List ℕ) (k : ℕ) → AllByRecursion (λ n. n < 2 ^ 64) m → get_or m k 0 < 2 ^ 64
small_at [] zero p = omega arith
small_at [] (suc k) p = omega arith
small_at (n ∷ ns) zero p = p.0
small_at (n ∷ ns) (suc k) p = small_at ns k p.1

begun_fits : (k n : ℕ) → n < 65536 → (length (begun_from k n) ≤ 1) × AllByRecursion (λ x. x < 65536) (begun_from k n)
begun_fits k n h = pick_both (λ xs. (length xs ≤ 1) × AllByRecursion (λ x. x < 65536) xs) (yes k) (n ∷ []) [] (omega arith, (h, tt)) (omega arith, tt)

reading_from_fits : (m : List ℕ) → reading_fits m ≡ true → ReadingFits (reading_from m)
reading_from_fits m e =
    let p = and_parts (leb (get_or m 16 0) 5) _ e in
    let q = and_parts (leb (get_or m 18 0) 16) _ p.1 in
    let r = and_parts (ltb (get_or m 20 0) 65536) _ q.1 in
    let few = leb-true (get_or m 18 0) 16 q.0 in
    let b = begun_fits (get_or m 19 0) (get_or m 20 0) (ltb-true (get_or m 20 0) 65536 r.0) in
    let all = (decides_every (λ n. ltb n 65536) (λ n. n < 65536) (λ n. Decides-ltb n 65536) (parameters_at m)).0 r.1 in
    let R : Reading → Type 0 = λ x. ReadingFits x in
    pick_both R (eqb (get_or m 16 0) 0) _ _ tt (pick_both R (eqb (get_or m 16 0) 1) _ _ tt
    (pick_both R (eqb (get_or m 16 0) 2) _ _ (simp length-take (omega arith), All-take (λ n. n < 65536) (get_or m 18 0) (parameters_at m) all, b.0, b.1)
    (pick_both R (eqb (get_or m 16 0) 3) _ _ tt (pick_both R (eqb (get_or m 16 0) 4) _ _ tt tt))))

pub loaded_in_range : LoadedInRange
unfolding header_fits term_from all_small
loaded_in_range m rs a e small =
    let w = (decides_every (λ n. ltb n (2 ^ 64)) (λ n. n < 2 ^ 64) (λ n. Decides-ltb n (2 ^ 64)) m).0 small in
    let p = and_parts (eqb (length m) 64) _ e in
    let q = and_parts (size_fits m) _ p.1 in
    let r = and_parts (cursor_fits m) _ q.1 in
    let x = and_parts (region_fits m) _ r.1 in
    let z₁ = and_parts (ltb 0 (get_or m 0 0)) _ q.0 in
    let z₂ = and_parts (leb (get_or m 0 0) 200) _ z₁.1 in
    let z₃ = and_parts (ltb 0 (get_or m 1 0)) _ z₂.1 in
    let c = and_parts (ltb (get_or m 2 0) (get_or m 1 0)) _ r.0 in
    let g = and_parts (leb (get_or m 6 0) (get_or m 7 0)) _ x.0 in
    record {
      some_wide = ltb-true _ _ z₁.0;
      narrow = leb-true _ _ z₂.0;
      some_high = ltb-true _ _ z₃.0;
      low = leb-true _ _ z₃.1;
      on_row = ltb-true _ _ c.0;
      on_col = ltb-true _ _ c.1;
      ordered = leb-true _ _ g.0;
      inside = ltb-true _ _ g.1;
      writes = style_from_fits (get_or m 5 0) (small_at m 5 w);
      saved_row = small_at m 12 w;
      saved_col = small_at m 13 w;
      saves = style_from_fits (get_or m 14 0) (small_at m 14 w);
      reads = reading_from_fits m x.1;
    }
