-- Somebody attaches: the memory and the act, case by case.
use Rattle.std.proofs.Common.{◌≡◌, ℕ, suc, ◌+◌, ◌*◌, ◌≤◌, Bool, true, false, List, [], ◌∷◌, length, Some, None, sym, refl, ap, ◌∙◌, subst, arith}
use lib.ListN.{length-replicate}
use Rattle.meaning.specs.Words.{pick, none_of, so_many}
use Rattle.meaning.specs.Screen.{Term, fresh, fitted}
use Rattle.meaning.specs.Panes.{Glass, attach, pane_wide, pane_high, as_large, with_panes}
use Rattle.meaning.specs.Picture.{picture}
use Rattle.meaning.specs.Entry.{ActTold, SaysTold}
use Rattle.meaning.specs.declared.answer.Told.{Told}
use Rattle.meaning.specs.declared.answer.Told.TheVariants.{Start, Size as SizeIs}
use Rattle.grid.specs.Cells.{blank_number, cells_of}
use Rattle.grid.specs.declared.size.Size.{Size}
use Rattle.terminal.specs.Terms.{term_on}
use Rattle.terminal.specs.declared.state.Terminal.{Terminal}
use Rattle.layout.specs.Window.{one_pane}
use Rattle.render.specs.declared.pen.Pen.{Pen}
use Rattle.render.specs.Pens.{fresh_pen}
use Rattle.render_law.proofs.Law.{writer_law}
use Rattle.engine.specs.Areas.{part, over}
use Rattle.engine.specs.State.{View, Out, state, fresh_view, go_room, drawing, closing, looks, going, said_or_going, view_at}
use Rattle.engine.specs.Memory.{memory_size, screen_at, cells_at, encode}
use Rattle.engine.proofs.Areas.{part_over, part_over_above}
use Rattle.engine.proofs.Maps.{placed}
use Rattle.engine.proofs.Rewrites.{encode_screen}
use Rattle.machine.specs.States.{terminal_in, glass_of, with_next, view_of}
use Rattle.machine.specs.declared.state.Held.{Held}
use Rattle.machine.specs.declared.state.Machine.{Machine}
use Rattle.turns.specs.Does.{Does}
use Rattle.turns.specs.Turned.{then_goes}
use Rattle.live.specs.Turned.{turned, Looked}
use Rattle.turns.proofs.Lent.{few_cells}
use Rattle.turns.proofs.Viewing.{length_pane}
use Rattle.live.proofs.Heard.{going_keeps}
use Rattle.live.proofs.Sized.{anew, after_both}
use Rattle.live.proofs.Attached.{room_of, on_first, on_same, on_other}

-- a viewer's cells that are all blank
abbrev pub blanks : Size → List ℕ
blanks s = so_many (s.high * s.wide) blank_number

looked_is : (y : Machine) (s : Size) (n j : ℕ) (p : Held) (m cs : List ℕ) (t : Term) → Looked s n p y → term_on p.terminal cs [] ≡ t
    → anew y j p m cs (blanks s) ≡ state (one_pane s.wide s.high p.id t j false) (fresh_view s.wide s.high)
looked_is y s n j p m cs t q e =
    ap (λ (g : Glass). state (with_panes (with_next g j) (record { id = p.id; term = term_on p.terminal cs [] } ∷ [])) (record { wide = y.size.wide; high = y.size.high; cells = blanks s; pen = y.pen })) (q.glass m)
    ∙ (ap (λ (u : Term). state (one_pane s.wide s.high p.id u j false) (record { wide = y.size.wide; high = y.size.high; cells = blanks s; pen = y.pen })) e
    ∙ (ap (λ (z : Size). state (one_pane s.wide s.high p.id t j false) (record { wide = z.wide; high = z.high; cells = blanks s; pen = y.pen })) q.size
    ∙ ap (λ (z : Pen). state (one_pane s.wide s.high p.id t j false) (record { wide = s.wide; high = s.high; cells = blanks s; pen = z })) q.pen))

-- the pane's cells were written, the viewer's blanked, and the machine stored with j as the next pane's number
attached_memory : (y : Machine) (s : Size) (n j : ℕ) (p : Held) (m m₁ m₂ m₃ cs : List ℕ) (t : Term) → length m ≡ 238304 → Looked s n p y
    → m₁ ≡ over m 38304 cs → m₂ ≡ over m₁ 2304 (blanks s) → m₃ ≡ encode m₂ (state (with_next (glass_of y m₂) j) (view_of y m₂))
    → length cs ≡ p.terminal.size.high * p.terminal.size.wide → term_on p.terminal cs [] ≡ t
    → m₃ ≡ encode m (state (one_pane s.wide s.high p.id t j false) (fresh_view s.wide s.high))
attached_memory y s n j p m m₁ m₂ m₃ cs t l q a b c k e =
    let lm : length m ≡ memory_size = l ∙ sym placed.size in
    let lv : length (blanks s) ≡ y.size.high * y.size.wide = length-replicate (s.high * s.wide) blank_number ∙ sym (ap (λ (z : Size). z.high * z.wide) q.size) in
    let o : m₂ ≡ over (over m cells_at cs) screen_at (blanks s) =
    b ∙ (ap (λ (u : List ℕ). over u 2304 (blanks s)) a ∙ (ap (λ (i : ℕ). over (over m i cs) 2304 (blanks s)) (sym placed.cells) ∙ ap (λ (i : ℕ). over (over m cells_at cs) i (blanks s)) (sym placed.screen))) in
    c ∙ (ap (λ (u : List ℕ). encode u (state (with_next (glass_of y u) j) (view_of y u))) o ∙ (after_both m cs (blanks s) y j p lm q.pane k lv ∙ ap (encode m) (looked_is y s n j p m cs t q e)))

-- the first gets a pane
pub first_does : (x y : Machine) (s : Size) (p : Held) (m m₁ m₂ m₃ cs ys : List ℕ) (k : ℕ) → length m ≡ 238304 → x.pane ≡ None → Looked s x.next p y → p.id ≡ x.next
    → m₁ ≡ over m 38304 cs → m₂ ≡ over m₁ 2304 (blanks s) → m₃ ≡ encode m₂ (state (with_next (glass_of y m₂) (x.next + 1)) (view_of y m₂))
    → length cs ≡ p.terminal.size.high * p.terminal.size.wide
    → term_on p.terminal cs [] ≡ fresh (pane_wide (room_of s.wide s.high)) (pane_high (room_of s.wide s.high))
    → k ≡ 65536 * x.next + 256 * pane_wide (room_of s.wide s.high) + pane_high (room_of s.wide s.high)
    → Does (turned x m (attach s.wide s.high)) m m₃ (Start k) ys ys
unfolding said_or_going view_at ActTold SaysTold
first_does x y s p m m₁ m₂ m₃ cs ys k l e q i a b c n t f =
    let up : x.next + 1 ≡ suc x.next = omega arith in
    subst (λ (o : Out). Does o m m₃ (Start k) ys ys) (ap (then_goes (fresh_view s.wide s.high)) (sym (on_first x m s.wide s.high e)))
    (record {
      memory = attached_memory y s x.next (suc x.next) p m m₁ m₂ m₃ cs _ l q a b (c ∙ ap (λ (j : ℕ). encode m₂ (state (with_next (glass_of y m₂) j) (view_of y m₂))) up) n t
          ∙ ap (λ (j : ℕ). encode m (state (one_pane s.wide s.high j (fresh (pane_wide (room_of s.wide s.high)) (pane_high (room_of s.wide s.high))) (suc x.next) false) (fresh_view s.wide s.high))) i;
      act = (ap Start f, refl);
    })

-- going on keeps the number of the viewer's cells
going_long : (g : Glass) (v : View) → length (going g v).state.view.cells ≡ length v.cells
unfolding going
going_long g v =
    kept (looks g) (none_of (drawing g v).bytes) (none_of (closing g v).bytes) _ _ _ _ refl refl
    (writer_law.keeps v.wide v.high go_room (cells_of (picture g)) v.cells v.pen).long refl
  where
    kept : (a b c : Bool) (o₁ o₂ o₃ o₄ : Out) → length o₁.state.view.cells ≡ length v.cells → length o₂.state.view.cells ≡ length v.cells
        → length o₃.state.view.cells ≡ length v.cells → length o₄.state.view.cells ≡ length v.cells
        → length (pick a (pick b (pick c o₁ o₂) o₃) o₄).state.view.cells ≡ length v.cells
    kept true true true o₁ o₂ o₃ o₄ e₁ e₂ e₃ e₄ = e₁
    kept true true false o₁ o₂ o₃ o₄ e₁ e₂ e₃ e₄ = e₂
    kept true false c o₁ o₂ o₃ o₄ e₁ e₂ e₃ e₄ = e₃
    kept false b c o₁ o₂ o₃ o₄ e₁ e₂ e₃ e₄ = e₄

-- the pane is as large as its place: only the viewer's cells were blanked, and the machine went on
terminal_stays : (t : Terminal) (m vs : List ℕ) → length m ≡ memory_size → length vs ≤ 12000 → terminal_in t (over m screen_at vs) ≡ terminal_in t m
terminal_stays t m vs l h =
    let k = placed in
    ap (λ (xs : List ℕ). term_on t xs []) (part_over_above m screen_at vs cells_at (t.size.high * t.size.wide) (omega arith) (omega arith))

view_blank : (y : Machine) (s : Size) (n : ℕ) (p : Held) (m : List ℕ) → length m ≡ memory_size → Looked s n p y → view_of y (over m screen_at (blanks s)) ≡ fresh_view s.wide s.high
view_blank y s n p m l q =
    let k = placed in
    let c : part (over m screen_at (blanks s)) screen_at (s.high * s.wide) ≡ blanks s =
    ap (part (over m screen_at (blanks s)) screen_at) (sym (length-replicate (s.high * s.wide) blank_number)) ∙ part_over m screen_at (blanks s) (omega arith) in
    ap (λ (z : Size). record { wide = z.wide; high = z.high; cells = part (over m screen_at (blanks s)) screen_at (z.high * z.wide); pen = y.pen }) q.size
    ∙ (ap (λ (z : Pen). record { wide = s.wide; high = s.high; cells = part (over m screen_at (blanks s)) screen_at (s.high * s.wide); pen = z }) q.pen
    ∙ ap (λ (xs : List ℕ). record { wide = s.wide; high = s.high; cells = xs; pen = fresh_pen }) c)

pub same_does : (x y : Machine) (s : Size) (p : Held) (m m₁ m₂ ys ys₁ : List ℕ) (r : Told) → length m ≡ 238304 → x.pane ≡ Some p
    → as_large (room_of s.wide s.high) (terminal_in p.terminal m) ≡ true → Looked s x.next p y → m₁ ≡ over m 2304 (blanks s)
    → Does (going (glass_of y m₁) (view_of y m₁)) m₁ m₂ r ys ys₁ → Does (turned x m (attach s.wide s.high)) m m₂ r ys ys₁
unfolding said_or_going view_at
same_does x y s p m m₁ m₂ ys ys₁ r l e z q a d₀ =
    let lm : length m ≡ memory_size = l ∙ sym placed.size in
    let f = few_cells s in
    let lb : length (blanks s) ≡ s.high * s.wide = length-replicate (s.high * s.wide) blank_number in
    let o : m₁ ≡ over m screen_at (blanks s) = a ∙ ap (λ (j : ℕ). over m j (blanks s)) (sym placed.screen) in
    let v = fresh_view s.wide s.high in
    let g = one_pane s.wide s.high p.id (terminal_in p.terminal m) x.next false in
    let d₁ = subst (λ (u : List ℕ). Does (going (glass_of y u) (view_of y u)) u m₂ r ys ys₁) o d₀ in
    let u = over m screen_at (blanks s) in
    let d₂ = subst (λ (h : Glass). Does (going h (view_of y u)) u m₂ r ys ys₁)
    (q.glass u ∙ ap (λ (t : Term). one_pane s.wide s.high p.id t x.next false) (terminal_stays p.terminal m (blanks s) lm (omega arith))) d₁ in
    let d = subst (λ (h : View). Does (going g h) u m₂ r ys ys₁) (view_blank y s x.next p m lm q) d₂ in
    let k = going_long g v in
    subst (λ (h : Out). Does h m m₂ r ys ys₁) (ap (then_goes v) (sym (on_same x p m s.wide s.high e z)))
    (record {
      memory = d.memory
          ∙ encode_screen m (blanks s) (going g v).state lm (omega arith) (omega arith)
          (λ h hs i. length_pane m (Some p) lm h hs (ap (λ (w : Glass). w.panes) (sym (going_keeps g v)) ∙ i));
      act = d.act;
    })

-- another size is told
pub other_does : (x y : Machine) (s : Size) (p p₁ : Held) (m m₁ m₂ m₃ cs ys : List ℕ) (k : ℕ) → length m ≡ 238304 → x.pane ≡ Some p
    → as_large (room_of s.wide s.high) (terminal_in p.terminal m) ≡ false → Looked s x.next p₁ y → p₁.id ≡ p.id
    → m₁ ≡ over m 38304 cs → m₂ ≡ over m₁ 2304 (blanks s) → m₃ ≡ encode m₂ (state (glass_of y m₂) (view_of y m₂))
    → length cs ≡ p₁.terminal.size.high * p₁.terminal.size.wide
    → term_on p₁.terminal cs [] ≡ fitted (terminal_in p.terminal m) (pane_wide (room_of s.wide s.high)) (pane_high (room_of s.wide s.high))
    → k ≡ 65536 * p.id + 256 * pane_wide (room_of s.wide s.high) + pane_high (room_of s.wide s.high)
    → Does (turned x m (attach s.wide s.high)) m m₃ (SizeIs k) ys ys
unfolding said_or_going view_at ActTold SaysTold
other_does x y s p p₁ m m₁ m₂ m₃ cs ys k l e z q i a b c n t f =
    let u : y.next ≡ x.next = ap (λ (g : Glass). g.next) (q.glass m) in
    subst (λ (o : Out). Does o m m₃ (SizeIs k) ys ys) (ap (then_goes (fresh_view s.wide s.high)) (sym (on_other x p m s.wide s.high e z)))
    (record {
      memory = attached_memory y s x.next y.next p₁ m m₁ m₂ m₃ cs _ l q a b c n t
          ∙ (λ j. encode m (state (one_pane s.wide s.high (i j) (fitted (terminal_in p.terminal m) (pane_wide (room_of s.wide s.high)) (pane_high (room_of s.wide s.high))) (u j) false) (fresh_view s.wide s.high)));
      act = (ap SizeIs f, refl);
    })
