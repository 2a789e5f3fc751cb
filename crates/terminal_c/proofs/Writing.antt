-- A terminal as it comes up, fed with bytes.
use mathlib.Core.Path.{◌≡◌, sym, ap, subst, ◌∙◌}
use mathlib.Core.Bool.{Bool, true, ◌&&◌}
use mathlib.Core.List.{List, []}
use Prim.Native.Nat.{ℕ}
use native.Mathlib.Omega.{arith}
use lib.Dec.{leb, ltb}
use lib.ListN.{length}
use Rattle.meaning.specs.Screen.{Term, fresh}
use Rattle.meaning.specs.Bytes.{written}
use Rattle.grid.specs.Edits.{on_screen}
use Rattle.grid.specs.declared.size.Size.{Size}
use Rattle.terminal.specs.Terms.{term_on}
use Rattle.terminal.specs.declared.state.Terminal.{Terminal}
use Rattle.shown.specs.Driven.{Driven}
use Rattle.terminal_c.specs.Wrote.{Wrote, fits}

of_size : (size : Size) (cells bytes : List ℕ) (t : Terminal) (cells₁ : List ℕ) (r : Bool) (t₁ : Terminal) (cells₂ : List ℕ)
    → fits size.wide size.high cells ≡ true → on_screen size.wide size.high cells ≡ true → t.size ≡ size → term_on t cells₁ [] ≡ fresh size.wide size.high → length cells₁ ≡ length cells
    → Driven t cells₁ bytes r t₁ cells₂ → Wrote size.wide size.high cells bytes r cells₂
of_size size cells bytes t cells₁ r t₁ cells₂ f o z s l d =
    let o₁ : on_screen t.size.wide t.size.high cells₁ ≡ true = rw (z, l) o in
    let y : r ≡ true = d.told ∙ o₁ in
    let a = d.done y in
    let w : t₁.size.wide ≡ size.wide = a.wide ∙ ap (λ (x : Size). x.wide) z in
    let h : t₁.size.high ≡ size.high = a.high ∙ ap (λ (x : Size). x.high) z in
    let e = ap (λ (u : Term). u.rows) a.term ∙ ap (λ (u : Term). (written u bytes).rows) s in
    record { told = y ∙ sym f; done = λ _. rw (w, h) at e; kept = λ n. (let q = sym y ∙ n in let x : ◌≡◌ {A = ℕ} 0 1 = cc in absurd (omega arith)) }

pub wrote : (w h : ℕ) (size : Size) (cells bytes : List ℕ) (t : Terminal) (cells₁ : List ℕ) (r : Bool) (t₁ : Terminal) (cells₂ : List ℕ)
    → (ltb 0 w && (leb w 200 && (ltb 0 h && leb h 60))) ≡ true → size.wide ≡ w → size.high ≡ h → on_screen size.wide size.high cells ≡ true → t.size ≡ size
    → term_on t cells₁ [] ≡ fresh size.wide size.high → length cells₁ ≡ length cells → Driven t cells₁ bytes r t₁ cells₂ → Wrote w h cells bytes r cells₂
wrote w h size cells bytes t cells₁ r t₁ cells₂ f p q o z s l d =
    let g : fits size.wide size.high cells ≡ true = rw o (rw (p, q) (rw f)) in
    let m = of_size size cells bytes t cells₁ r t₁ cells₂ g o z s l d in
    subst (λ (n : ℕ). Wrote w n cells bytes r cells₂) q (subst (λ (n : ℕ). Wrote n size.high cells bytes r cells₂) p m)
