-- A screen that comes up, whose cells were written through the slice that they lend.
use Rattle.std.proofs.Common.{◌≡◌, ℕ, ◌*◌, true, eqb, List, [], length, vec_items, Vec, sym, ap, ◌∙◌}
use Rattle.std.specs.Vec.{with_items}
use Rattle.std.specs.declared.alloc.Global.{Global}
use Rattle.std.proofs.lemmas.List.{with_items_is}
use Rattle.meaning.specs.Screen.{fresh, with_answer}
use Rattle.grid.specs.Edits.{on_screen}
use Rattle.grid.specs.declared.size.Size.{Size}
use Rattle.terminal.specs.Terms.{term_on}
use Rattle.terminal.specs.declared.state.Terminal.{Terminal}
use Rattle.player.specs.Screens.{screen_of, whole_screen}

-- the cells are those that the slice held at its end
filled : (v : Vec ℕ Global) (xs ys : List ℕ) → xs ≡ vec_items v → length ys ≡ length xs → vec_items (with_items v ys) ≡ ys
filled v xs ys e l = with_items_is v ys (l ∙ (ap length e ∙ sym v.ok.0))

pub begun : (size : Size) (t : Terminal) (v : Vec ℕ Global) (xs ys : List ℕ) → xs ≡ vec_items v → length ys ≡ length xs → on_screen size.wide size.high xs ≡ true → t.size ≡ size
    → ((a : List ℕ) → term_on t ys a ≡ with_answer (fresh size.wide size.high) a)
    → (screen_of (record { term = t; cells = with_items v ys }) ≡ fresh size.wide size.high) × (whole_screen (record { term = t; cells = with_items v ys }) ≡ true)
begun size t v xs ys e l o z f =
    let g = filled v xs ys e l in
    let s : eqb (length (vec_items (with_items v ys))) (t.size.high * t.size.wide) ≡ eqb (length xs) (size.high * size.wide) = ap (λ (x : List ℕ). eqb (length x) (t.size.high * t.size.wide)) g
    ∙ (ap (λ (n : ℕ). eqb n (t.size.high * t.size.wide)) l ∙ ap (λ (x : Size). eqb (length xs) (x.high * x.wide)) z) in
    (ap (λ (x : List ℕ). term_on t x []) g ∙ f [], s ∙ o)
