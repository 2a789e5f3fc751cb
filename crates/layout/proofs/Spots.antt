-- Where the cursor of one window with one pane is.
use Rattle.std.proofs.Common.{◌≡◌, ℕ, ◌-◌, ◌<◌, Bool, true, false, ◌&&◌, ltb, sym, refl, ◌∙◌, zero-add}
use Rattle.std.proofs.lemmas.Bool.{eq-eqb, lt-ltb}
use Rattle.meaning.specs.Screen.{Term}
use Rattle.meaning.specs.Panes.{places, window_at, rect}
use Rattle.meaning.specs.Picture.{Spot, spot, spot_in, nowhere}
use Rattle.layout.specs.Window.{one_pane}

spot_is : (w h i n : ℕ) (t : Term) (p : Bool) → spot (one_pane w h i t n p) ≡ spot_in (rect 0 0 w (h - 1)) t
unfolding spot places window_at
spot_is w h i n t p = simp (eq-eqb i i refl)

abbrev pub here : Term → Spot
here t = record { shown = true; row = t.row; col = t.col }

pub spot_seen : (w h i n : ℕ) (t : Term) (p : Bool) → t.shown ≡ true → t.row < h - 1 → t.col < w → here t ≡ spot (one_pane w h i t n p)
spot_seen w h i n t p s a b = sym (spot_is w h i n t p ∙ simp (s, lt-ltb _ _ a, lt-ltb _ _ b, zero-add))

pub spot_hidden : (w h i n : ℕ) (t : Term) (p : Bool) → (t.shown && (ltb t.row (h - 1) && ltb t.col w)) ≡ false → nowhere ≡ spot (one_pane w h i t n p)
spot_hidden w h i n t p e = sym (spot_is w h i n t p ∙ simp e)
