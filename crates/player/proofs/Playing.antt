-- One thing played, put together from its parts.
use Rattle.std.proofs.Common.{◌≡◌, ℕ, ◌*◌, ◌≤◌, Bool, true, false, List, length, IfOk, Ok, Err, vec_items, Result, Vec, sym, refl, ap, ◌∙◌, subst, arith}
use Rattle.std.specs.declared.alloc.Global.{Global}
use Rattle.std.proofs.lemmas.Bool.Decides.{nat_tests}
use Rattle.meaning.specs.Screen.{Term, fresh}
use Rattle.meaning.specs.Bytes.{written}
use Rattle.meaning.specs.Panes.{Event}
use Rattle.meaning.specs.Picture.{differs}
use Rattle.meaning.specs.Promise.{Engine, comes, screen_at}
use Rattle.render_law.specs.Law.{differing}
use Rattle.render_law.proofs.Law.{writer_law}
use Rattle.shown.specs.Driven.{unheard}
use Rattle.serve.specs.declared.acts.Acts.{Acts}
use Rattle.live.specs.declared.coming.Coming.{Coming}
use Rattle.live.specs.declared.coming.Coming.TheVariants.{Key, From, Gone, Look}
use Rattle.serve.specs.Coming.{event_of}
use Rattle.serve.specs.Log.{no_acts, log_of}
use Rattle.serve.specs.Serving.{Went, went, goes, sizes_fit}
use Rattle.player.specs.declared.play.Player.{Player}
use Rattle.player.specs.declared.screen.Screen.{Screen}
use Rattle.player.specs.declared.tally.Tally.{Tally}
use Rattle.player.specs.Grants.{grant, still_attached, tally_on}
use Rattle.player.specs.Screens.{screen_of, whole_screen}
use Rattle.player.specs.Plays.{Looked, attached_at, Attended, end_of, ServedSo, Seen, Judged, went_so, Plays}

-- a screen of one cell
pub one_cell : (t : Term) (w h : ℕ) → t ≡ fresh w h → w ≡ 1 → h ≡ 1 → t ≡ fresh 1 1
one_cell t w h e x y = e ∙ rw (x, y) refl

-- what comes to the screen itself
pub attended_look : {X Y : Type 0} (r : Result X Y) (p p₁ : Player) (x : Coming) (w h : ℕ) → x ≡ Look w h → IfOk r (λ _. Looked p w h p₁) → IfOk r (λ _. (bs : List ℕ) → Attended p (event_of x bs) p₁)
unfolding screen_at
attended_look (Ok y) p p₁ x w h e l = λ bs. subst (λ (c : Coming). Attended p (event_of c bs) p₁) (sym e)
    (record { memory = l.memory; out = l.out; tally = l.tally; screen = l.screen; attached = l.attached })
attended_look (Err y) p p₁ x w h e l = tt

pub attended_other : (p : Player) (x : Coming) → ((w h : ℕ) → x ≡ Look w h → ⊥) → (bs : List ℕ) → Attended p (event_of x bs) p
unfolding screen_at
attended_other p (Key c) f bs = record { memory = refl; out = refl; tally = refl; screen = refl; attached = refl }
attended_other p (From i) f bs = record { memory = refl; out = refl; tally = refl; screen = refl; attached = refl }
attended_other p (Gone i) f bs = record { memory = refl; out = refl; tally = refl; screen = refl; attached = refl }
attended_other p (Look w h) f bs = absurd (f w h refl)

-- cells of two screens of one size, counted by rows
pub same_count : (s s₁ : Screen) (b : List ℕ) → b ≡ vec_items s.cells → whole_screen s ≡ true → whole_screen s₁ ≡ true → s₁.term.size.wide ≡ s.term.size.wide → s₁.term.size.high ≡ s.term.size.high
    → differing b (vec_items s₁.cells) ≡ differs (screen_of s).rows (screen_of s₁).rows
same_count s s₁ b e w w₁ x y =
    let h : length (vec_items s.cells) ≡ s.term.size.high * s.term.size.wide = grind (arith, nat_tests) in
    let k₁ : length (vec_items s₁.cells) ≡ s₁.term.size.high * s₁.term.size.wide = grind (arith, nat_tests) in
    let k : length (vec_items s₁.cells) ≡ s.term.size.high * s.term.size.wide = rw (x, y) at k₁ in
    ap (λ (us : List ℕ). differing us (vec_items s₁.cells)) e
    ∙ (sym (writer_law.flat s.term.size.wide s.term.size.high (vec_items s.cells) (vec_items s₁.cells) h k)
    ∙ ap (differs (screen_of s).rows) (rw (x, y) refl))

-- from the player before, over those after each part, to the one at the end
module _ (e : Engine) (ev : Event) (p p₁ p₂ p₃ p₄ : Player) (b : List ℕ) (over : Bool) (a : Attended p ev p₁) (eb : b ≡ vec_items p₁.screen.cells) (s : ServedSo e ev p₁ over p₂) (v : Seen p₂ p₃) (j : Judged p₃ b over p₄) where
  how : went (vec_items p₂.memory) (log_of p₂.acts) (end_of over) ≡ went_so e ev p
  how =
      s.serves.so
      ∙ (ap (λ (m : Vec ℕ Global). goes (sizes_fit e (vec_items m) (vec_items p₁.out)) 1000000 e (vec_items m) (comes ev) no_acts false) a.memory
      ∙ ap (λ (o : Vec ℕ Global). goes (sizes_fit e (vec_items p.memory) (vec_items o)) 1000000 e (vec_items p.memory) (comes ev) no_acts false) a.out)

  bytes : vec_items p₂.acts.written ≡ (went_so e ev p).log.for_viewer
  bytes = ap (λ (w : Went). w.log.for_viewer) how

  seen : screen_of p₂.screen ≡ screen_at ev (screen_of p.screen)
  seen = ap screen_of s.screen ∙ a.screen

  many : length (vec_items p₃.acts.written) ≡ length (went_so e ev p).log.for_viewer
  many = ap (λ (x : Acts). length (vec_items x.written)) v.acts ∙ ap length bytes

  -- what is granted by flat cells is granted by rows
  grants : grant p₃.attached over (differing b (vec_items p₃.screen.cells)) ≡ grant p₄.attached over (differs (screen_at ev (screen_of p.screen)).rows (screen_of p₄.screen).rows)
  grants =
      let c = same_count p₂.screen p₃.screen b (eb ∙ ap (λ (x : Screen). vec_items x.cells) (sym s.screen)) v.whole v.whole_then v.wide v.high in
      ap (λ (x : Bool). grant x over (differing b (vec_items p₃.screen.cells))) (sym j.attached)
      ∙ ap (grant p₄.attached over) (c ∙ (ap (λ (t : Term). differs t.rows (screen_of p₃.screen).rows) seen ∙ ap (λ (x : Screen). differs (screen_at ev (screen_of p.screen)).rows (screen_of x).rows) (sym j.screen)))

  pub plays : Plays e ev p over p₄
  plays = record {
    memory = ap vec_items (j.memory ∙ v.memory) ∙ ap (λ (w : Went). w.memory) how;
    long = ap (λ (m : Vec ℕ Global). length (vec_items m)) (j.memory ∙ v.memory) ∙ (s.long ∙ ap (λ (m : Vec ℕ Global). length (vec_items m)) a.memory);
    room = ap (λ (o : Vec ℕ Global). length (vec_items o)) (j.out ∙ v.out) ∙ (s.room ∙ ap (λ (o : Vec ℕ Global). length (vec_items o)) a.out);
    end = ap (λ (w : Went). w.end) how;
    screen = ap screen_of j.screen ∙ (v.screen ∙ (ap (λ (t : Term). unheard (written t (vec_items p₂.acts.written))) seen ∙ ap (λ (bs : List ℕ). unheard (written (screen_at ev (screen_of p.screen)) bs)) bytes));
    attached = j.attached ∙ (v.attached ∙ (ap (λ (x : Bool). still_attached x (vec_items p₂.acts.told)) (s.attached ∙ a.attached) ∙ ap (λ (w : Went). still_attached (attached_at ev p.attached) w.log.lines) how));
    enough = subst (λ (n : ℕ). n ≤ grant p₄.attached over (differs (screen_at ev (screen_of p.screen)).rows (screen_of p₄.screen).rows)) many
        (subst (λ (n : ℕ). length (vec_items p₃.acts.written) ≤ n) grants j.enough);
    tally = j.tally ∙ (ap (λ (t : Tally). tally_on t (length (vec_items p₃.acts.written)) (grant p₃.attached over (differing b (vec_items p₃.screen.cells)))) (v.tally ∙ (s.tally ∙ a.tally))
        ∙ (ap (λ (n : ℕ). tally_on p.tally n (grant p₃.attached over (differing b (vec_items p₃.screen.cells)))) many ∙ ap (tally_on p.tally (length (went_so e ev p).log.for_viewer)) grants));
  }
