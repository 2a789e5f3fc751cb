-- The loop that feeds a terminal part by part: what is left, from the state so far, gives the whole.
use Rattle.std.proofs.Common.{◌≡◌, ℕ, ◌*◌, ◌≤◌, Bool, true, false, List, [], ◌++◌, length, Some, None, Ok, Err, Option, Result, sym, refl, ap, ◌∙◌, MatchOption}
use Rattle.std.proofs.lemmas.List.{nil_from_length}
use Rattle.std.proofs.lemmas.Bool.{eq-eqb, le-leb}
use Rattle.meaning.specs.Screen.{Term, fresh}
use Rattle.meaning.specs.Bytes.{written}
use Rattle.meaning.proofs.Parts.{in_parts}
use Rattle.grid.specs.Edits.{on_screen}
use Rattle.grid.specs.declared.size.Size.{Size}
use Rattle.terminal.specs.Terms.{term_on}
use Rattle.terminal.specs.Answer.{can_feed, Fed}
use Rattle.terminal.specs.declared.state.Terminal.{Terminal}
use Rattle.shown.specs.Driven.{unheard, FedAll, Driven}
use Rattle.shown.specs.Text.{screen_text}
use Rattle.shown.specs.Told.{Adds, Told, Shows}
use Rattle.shown.specs.declared.screen.Unwritten.{Unwritten}
use Rattle.shown.specs.declared.screen.Unwritten.TheVariants.{WrongCells, NoMemory}
use Rattle.shown.proofs.Alike.{Alike, alike_written}

-- a terminal that has still to be fed the rest comes to where all bytes bring it
pub record Driving (t : Terminal) (cells bytes : List ℕ) (t₁ : Terminal) (cells₁ rest : List ℕ) : Type 0 where
  pub term : unheard (written (term_on t₁ cells₁ []) rest) ≡ unheard (written (term_on t cells []) bytes)
  pub wide : t₁.size.wide ≡ t.size.wide
  pub high : t₁.size.high ≡ t.size.high

pub driving_none : (t : Terminal) (cells bytes rest : List ℕ) → rest ≡ bytes → Driving t cells bytes t cells rest
driving_none t cells bytes rest e = record { term = rw e; wide = refl; high = refl }

module _ {t t₁ : Terminal} {cells bytes cells₁ rest : List ℕ} (d : Driving t cells bytes t₁ cells₁ rest) where
  pub driving_more : (part rest₁ out : List ℕ) (r : ℕ) (t₂ : Terminal) (cells₂ out₂ : List ℕ) → rest ≡ part ++ rest₁ → Fed t₁ cells₁ part out r t₂ cells₂ out₂ → Driving t cells bytes t₂ cells₂ rest₁
  driving_more part rest₁ out r t₂ cells₂ out₂ e f =
      let u = term_on t₁ cells₁ [] in
      let a : Alike (term_on t₂ cells₂ []) (written u part) = record { same = ap unheard f.term } in
      let w = alike_written (term_on t₂ cells₂ []) (written u part) rest₁ a in
      let s = sym (in_parts u part rest₁) ∙ ap (written u) (sym e) in
      record { term = w.same ∙ (ap unheard s ∙ d.term); wide = f.wide ∙ d.wide; high = f.high ∙ d.high }

  -- a part of at most 4,096 bytes can be fed
  pub part_fits : (part out : List ℕ) → length cells₁ ≡ t.size.high * t.size.wide → length part ≤ 4096 → 10 * length part ≤ length out → can_feed t₁ cells₁ part out ≡ true
  part_fits part out e l o =
      let w = d.wide in
      let h = d.high in
      let f : length cells₁ ≡ t₁.size.high * t₁.size.wide = rw (h, w) e in
      simp (eq-eqb _ _ f, le-leb (length part) 4096 l, le-leb (10 * length part) (length out) o)

  -- and so it has been
  pub driving_fed : (part rest₁ out : List ℕ) (r : Option ℕ) (t₂ : Terminal) (cells₂ out₂ : List ℕ) → rest ≡ part ++ rest₁ → length cells₁ ≡ t.size.high * t.size.wide → length part ≤ 4096 → 10 * length part ≤ length out
      → MatchOption r
      ((can_feed t₁ cells₁ part out ≡ false) × (t₂ ≡ t₁) × (cells₂ ≡ cells₁) × (out₂ ≡ out))
      (λ m. (can_feed t₁ cells₁ part out ≡ true) × Fed t₁ cells₁ part out m t₂ cells₂ out₂)
      → Driving t cells bytes t₂ cells₂ rest₁
  driving_fed part rest₁ out None t₂ cells₂ out₂ e l m o f = let c = part_fits part out l m o in let z : true ≡ false = sym c ∙ f.0 in cc
  driving_fed part rest₁ out (Some r) t₂ cells₂ out₂ e l m o f = driving_more part rest₁ out r t₂ cells₂ out₂ e f.1

pub driving_all : {t t₁ : Terminal} {cells bytes cells₁ rest : List ℕ} → Driving t cells bytes t₁ cells₁ rest → length rest ≡ 0 → FedAll t cells bytes t₁ cells₁
unfolding written
driving_all {t} {t₁} {cells} {bytes} {cells₁} {rest} d l = record { term = sym (ap (λ xs. unheard (written (term_on t₁ cells₁ []) xs)) (nil_from_length rest l)) ∙ d.term; wide = d.wide; high = d.high }

-- a terminal as it comes up is fed, and its screen written out
pub shows : (old : List ℕ) (size : Size) (cells bytes : List ℕ) (t : Terminal) (cells₁ : List ℕ) (f : Bool) (t₁ : Terminal) (cells₂ : List ℕ) (r : Result Unit Unwritten) (new : List ℕ)
    → on_screen size.wide size.high cells ≡ true → t.size ≡ size → term_on t cells₁ [] ≡ fresh size.wide size.high → length cells₁ ≡ length cells → length cells₂ ≡ length cells
    → Driven t cells₁ bytes f t₁ cells₂ → Told old t₁ cells₂ r new → Shows old size cells bytes r new
shows old size cells bytes t cells₁ f t₁ cells₂ r new o z s l m d w =
    let o₁ : on_screen t.size.wide t.size.high cells₁ ≡ true = rw (z, l) o in
    let a = d.done (d.told ∙ o₁) in
    let o₂ : on_screen t₁.size.wide t₁.size.high cells₂ ≡ on_screen size.wide size.high cells =
    (let p = a.wide in let q = a.high in rw (p, q, z, m) refl) in
    let e : screen_text (term_on t₁ cells₂ []) ≡ screen_text (written (fresh size.wide size.high) bytes) = ap screen_text a.term ∙ ap (λ (u : Term). screen_text (written u bytes)) s in
    adds_as (term_on t₁ cells₂ []) (written (fresh size.wide size.high) bytes) old r new o₂ e w
  where
    adds_as : {f g : Bool} (u v : Term) (old : List ℕ) (r : Result Unit Unwritten) (new : List ℕ) → f ≡ g → screen_text u ≡ screen_text v → Adds old f u r new → Adds old g v r new
    adds_as u v old (Ok _) new e t p = (sym e ∙ p.0, p.1 ∙ ap (λ (x : List ℕ). old ++ x) t)
    adds_as u v old (Err WrongCells) new e t p = (sym e ∙ p.0, p.1)
    adds_as u v old (Err NoMemory) new e t p = (sym e ∙ p.0, p.1)
