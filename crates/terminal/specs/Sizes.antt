-- What another size of a terminal is.
use Rattle.std.specs.Prelude.{◌≡◌, ℕ, Bool, true, false, ◌&&◌, List}
use Rattle.meaning.specs.Screen.{fitted}
use Rattle.grid.specs.Edits.{on_screen}
use Rattle.terminal.specs.Terms.{term_on}
use Rattle.terminal.specs.declared.state.Terminal.{Terminal}

-- told whether the cells were as many as their sizes ask for; then t₁ with the new cells is t with the old ones at the new size, and else nothing has changed
pub record Resized (t : Terminal) (old : List ℕ) (w h : ℕ) (new : List ℕ) (r : Bool) (t₁ : Terminal) (new₁ : List ℕ) : Type 0 where
  pub told : r ≡ (on_screen t.size.wide t.size.high old && on_screen w h new)
  pub done : r ≡ true → (a : List ℕ) → term_on t₁ new₁ a ≡ fitted (term_on t old a) w h
  pub size : r ≡ true → (t₁.size.wide ≡ w) × (t₁.size.high ≡ h)
  pub kept : r ≡ false → (t₁ ≡ t) × (new₁ ≡ new)
