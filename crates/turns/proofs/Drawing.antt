-- One go of drawing over the machine's memory, and what is left if nothing was sent.
use Rattle.std.proofs.Common.{◌≡◌, ℕ, ◌*◌, ◌<◌, Bool, true, List, ◌++◌, length, take, drop, Some, sym, ap, ◌∙◌, subst, inl, inr, arith, length-drop, length-take}
use Rattle.std.proofs.lemmas.Bool.{cases_lt}
use Rattle.meaning.specs.Panes.{Glass}
use Rattle.meaning.specs.Picture.{picture}
use Rattle.meaning.specs.Entry.{ActTold}
use Rattle.meaning.specs.declared.answer.Told.{Told}
use Rattle.meaning.specs.declared.answer.Told.TheVariants.{Write}
use Rattle.grid.specs.Cells.{cells_of}
use Rattle.grid.specs.declared.size.Size.{Size}
use Rattle.layout.specs.Window.{one_pane}
use Rattle.render.specs.declared.pen.Pen.{Pen}
use Rattle.render.specs.Draw.{Go, drawn}
use Rattle.render_law.specs.Law.{differing}
use Rattle.render_law.proofs.Law.{writer_law}
use Rattle.render_law.proofs.Counts.{drawn_sends, drawn_stays}
use Rattle.engine.specs.Areas.{part, over}
use Rattle.engine.specs.State.{Out, state, drawing, after_drawing, looks, going}
use Rattle.engine.specs.Memory.{memory_size, screen_at, encode}
use Rattle.engine.proofs.Maps.{placed}
use Rattle.machine.specs.States.{terminal_in, glass_of, view_of, state_of}
use Rattle.machine.specs.declared.state.Held.{Held}
use Rattle.machine.specs.declared.state.Machine.{Machine}
use Rattle.machine.proofs.Stays.{over_part}
use Rattle.turns.specs.Sent.{Sent}
use Rattle.turns.specs.Does.{Does, closing_out}
use Rattle.turns.proofs.Lent.{few_cells}
use Rattle.turns.proofs.Viewing.{after_cells, viewed_so}
use Rattle.turns.proofs.Going.{glass_is, going_draws, going_closes}

pub draw_sent : (x : Machine) (p : Held) (m row m₁ ys ys₁ : List ℕ) (pen : Pen) (n : ℕ) → x.pane ≡ Some p → x.attached ≡ true
    → ((i k : ℕ) (q : Bool) → take (x.size.high * x.size.wide) row ≡ cells_of (picture (one_pane x.size.wide x.size.high i (terminal_in p.terminal m) k q)))
    → Sent (drawn x.size.wide x.size.high (take (x.size.high * x.size.wide) row) 4096 (part m 2304 (x.size.high * x.size.wide)) x.pen) m m₁ pen n ys ys₁
    → Sent (drawing (glass_of x m) (view_of x m)) m m₁ pen n ys ys₁
draw_sent x p m row m₁ ys ys₁ pen n e a f s =
    let w = x.size.wide in
    let h = x.size.high in
    let g : take (h * w) row ≡ cells_of (picture (glass_of x m)) = f p.id x.next x.prefix ∙ ap (λ (z : Glass). cells_of (picture z)) (glass_is x p m e a) in
    let t = subst (λ (pic : List ℕ). Sent (drawn w h pic 4096 (part m 2304 (h * w)) x.pen) m m₁ pen n ys ys₁) g s in
    subst (λ (j : ℕ). Sent (drawn w h (cells_of (picture (glass_of x m))) 4096 (part m j (h * w)) x.pen) m m₁ pen n ys ys₁) (sym placed.screen) t

-- the viewer's cells are as many after a go as before
length_drawn : (x : Machine) (m : List ℕ) → length m ≡ 238304 → length (drawing (glass_of x m) (view_of x m)).screen ≡ x.size.high * x.size.wide
length_drawn x m l =
    let k = placed in
    let f = few_cells x.size in
    let n = x.size.high * x.size.wide in
    let v : length (part m screen_at n) ≡ n = length-take n (drop screen_at m) ∙ (let d = length-drop screen_at m in omega arith) in
    (writer_law.keeps x.size.wide x.size.high 4096 (cells_of (picture (glass_of x m))) (part m screen_at n) x.pen).long ∙ v

-- something was sent, and the machine stored
pub draw_writes : (x y : Machine) (m m₁ m₂ ys ys₁ : List ℕ) (n : ℕ) → length m ≡ 238304 → looks (glass_of x m) ≡ true
    → Sent (drawing (glass_of x m) (view_of x m)) m m₁ y.pen n ys ys₁ → 0 < n → y.size ≡ x.size → glass_of y m ≡ glass_of x m
    → m₂ ≡ encode m₁ (state (glass_of y m₁) (view_of y m₁)) → Does (going (glass_of x m) (view_of x m)) m m₂ (Write n) ys ys₁
unfolding ActTold state_of
draw_writes x y m m₁ m₂ ys ys₁ n l k s h z e i =
    let g = glass_of x m in
    let v = view_of x m in
    let d = drawing g v in
    let lm : length m ≡ memory_size = l ∙ sym placed.size in
    let a : m₁ ≡ over m screen_at d.screen = s.memory ∙ ap (λ (j : ℕ). over m j d.screen) (sym placed.screen) in
    let b : m₂ ≡ encode (over m screen_at d.screen) (state_of y (over m screen_at d.screen)) = i ∙ ap (λ (q : List ℕ). encode q (state (glass_of y q) (view_of y q))) a in
    let c = after_cells m d.screen y lm (length_drawn x m l ∙ sym (ap (λ (q : Size). q.high * q.wide) z)) in
    let f : viewed_so y m d.screen y.pen ≡ state g (after_drawing v d) =
    ap (λ (q : Size). state (glass_of y m) (record { wide = q.wide; high = q.high; cells = d.screen; pen = y.pen })) z
    ∙ (ap (λ (q : Glass). state q (record { wide = x.size.wide; high = x.size.high; cells = d.screen; pen = y.pen })) e
    ∙ ap (λ (q : Pen). state g (record { wide = x.size.wide; high = x.size.high; cells = d.screen; pen = q })) s.set_to) in
    let r = s.count in
    subst (λ (o : Out). Does o m m₂ (Write n) ys ys₁) (going_draws g v k (omega arith))
    (record { memory = b ∙ (c ∙ ap (encode m) f); act = (ap Write s.count, s.so) })

-- nothing was sent: memory and row are as they were
pub draw_none : (x : Machine) (m m₁ ys ys₁ : List ℕ) (pen : Pen) (n : ℕ) → length m ≡ 238304 → length (cells_of (picture (glass_of x m))) ≡ x.size.high * x.size.wide
    → Sent (drawing (glass_of x m) (view_of x m)) m m₁ pen n ys ys₁ → n ≡ 0 → (m₁ ≡ m) × (ys₁ ≡ ys) × (length (drawing (glass_of x m) (view_of x m)).bytes ≡ 0)
draw_none x m m₁ ys ys₁ pen n l lp s z =
    let k = placed in
    let f = few_cells x.size in
    let w = x.size.wide in
    let h = x.size.high in
    let vs = part m screen_at (h * w) in
    let pic = cells_of (picture (glass_of x m)) in
    let lv : length vs ≡ h * w = length-take (h * w) (drop screen_at m) ∙ (let d = length-drop screen_at m in omega arith) in
    let b : length (drawing (glass_of x m) (view_of x m)).bytes ≡ 0 = (let c = s.count in omega arith) in
    let e : differing vs pic ≡ 0 = elim (cases_lt 0 (differing vs pic)) [ inl q ↦ absurd (let t = drawn_sends w h 4096 pic vs x.pen lv lp (omega arith) q in omega arith) | inr q ↦ omega arith ] in
    let d = drawn_stays w h 4096 pic vs x.pen lv lp e in (
      s.memory ∙ (ap (λ (g : Go). over m 2304 g.screen) d ∙ (ap (λ (j : ℕ). over m j vs) (sym placed.screen) ∙ over_part m screen_at (h * w) (omega arith))),
      s.so ∙ ap (λ (g : Go). g.bytes ++ drop (length g.bytes) ys) d,
      b,
    )

pub draw_closes : (x : Machine) (m m₁ m₂ ys ys₁ ys₂ : List ℕ) (pen : Pen) (n : ℕ) (r : Told) → length m ≡ 238304 → looks (glass_of x m) ≡ true
    → length (cells_of (picture (glass_of x m))) ≡ x.size.high * x.size.wide
    → Sent (drawing (glass_of x m) (view_of x m)) m m₁ pen n ys ys₁ → n ≡ 0 → Does (closing_out (glass_of x m₁) (view_of x m₁)) m₁ m₂ r ys₁ ys₂
    → Does (going (glass_of x m) (view_of x m)) m m₂ r ys ys₂
draw_closes x m m₁ m₂ ys ys₁ ys₂ pen n r l k lp s z d =
    let q = draw_none x m m₁ ys ys₁ pen n l lp s z in
    subst (λ (o : Out). Does o m m₂ r ys ys₂) (going_closes (glass_of x m) (view_of x m) k q.2)
    (subst (λ (a : List ℕ). Does (closing_out (glass_of x a) (view_of x a)) a m₂ r ys ys₂) q.0
    (subst (λ (a : List ℕ). Does (closing_out (glass_of x m₁) (view_of x m₁)) m₁ m₂ r a ys₂) q.1 d))
