-- The states that can come about: one window with one pane, or none. Every thing that comes keeps them so.
use Rattle.std.proofs.Common.{◌≡◌, ℕ, zero, suc, ◌+◌, ◌-◌, ◌*◌, ◌^◌, ◌<◌, ◌≤◌, Bool, true, false, ◌&&◌, eqb, ltb, leb, ◌⊎◌, List, [], length, sym, refl, ap, ◌∙◌, subst, inl, inr, arith}
use lib.ListN.{length-replicate}
use Rattle.std.proofs.lemmas.Bool.{and_parts, cases_Bool, cases_eq, eqb-true, leb-true, cond-true, cond-false}
use Rattle.std.proofs.ByRecursion.{All-weaker}
use Rattle.meaning.specs.Words.{every, so_many}
use Rattle.meaning.specs.Screen.{Term, Reading, ground_state, escape, sequence, passed, string, string_end, fresh, fitted, with_answer}
use Rattle.meaning.specs.Bytes.{written}
use Rattle.meaning.specs.Panes.{Glass, Event, key, from, gone, attach, turn, pane_wide, pane_high, as_large}
use Rattle.meaning.specs.Promise.{proper_event}
use Rattle.meaning.proofs.Sound.{Sound, sound_written, sound_fitted, sound_fresh}
use Rattle.meaning.proofs.Readings.{Short, Held, held_written}
use Rattle.meaning.proofs.Drawable.{Fine, fine_written, fine_fresh, fine_fitted, fine_answer}
use Rattle.grid.specs.Cells.{blank_number}
use Rattle.header.specs.Header.{ReadingFits}
use Rattle.engine.specs.State.{View, fresh_view, view_at, looks}
use Rattle.engine.proofs.Core.{One, one_glass, empty, with_look, with_term, resized, started, room_of, key_next, attach_next, from_next, from_other, from_says, gone_next, gone_other, first_attach, key_empty, from_empty, gone_empty}
use Rattle.engine.proofs.Machine.{Pictured, Viewed}
use Rattle.engine.proofs.Pictures.{PaneOk, pictured_one}
use Rattle.engine.proofs.Back.{Sized}

-- what the pane's terminal keeps beside its screen fits memory
abbrev pub Reads : Term → Type 0
Reads t = Held (λ s. Unit {0}) 9999 (2 ^ 64) (2 ^ 64) t

pub short_fits : (r : Reading) → Short 9999 r → ReadingFits r
short_fits ground_state s = tt
short_fits escape s = tt
short_fits (sequence private ps now) s = (s.0, All-weaker _ _ (λ n h. omega arith) ps s.1, s.2, All-weaker _ _ (λ n h. omega arith) now s.3)
short_fits passed s = tt
short_fits string s = tt
short_fits string_end s = tt

-- n more things may come, and the panes' numbers stay small
pub record OneOk (n : ℕ) (u : One) : Type 0 where
  pub pane : PaneOk u
  pub reads : Reads u.term
  pub silent : u.term.answer ≡ []
  pub number : u.id < 2 ^ 47
  pub left : u.next + n < 2 ^ 47

pub record EmptyOk (n : ℕ) (g : Glass) : Type 0 where
  pub is : g ≡ empty g.wide g.high g.attached g.next g.prefix
  pub some_wide : 0 < g.wide
  pub wide : g.wide ≤ 200
  pub some_high : 0 < g.high
  pub high : g.high ≤ 60
  pub left : g.next + n < 2 ^ 47

pub data Good (n : ℕ) : Glass → Type 0 where
  one : (u : One) → OneOk n u → Good n (one_glass u)
  none : (w h k : ℕ) (a p : Bool) → EmptyOk n (empty w h a k p) → Good n (empty w h a k p)

pub pictured : (n : ℕ) (g : Glass) → Good n g → looks g ≡ true → Pictured g
pictured n _ (one u o) l = pictured_one u o.pane
pictured n _ (none w h k true p o) l = absurd (let z : ◌≡◌ {A = ℕ} 0 1 = cc in omega arith)
pictured n _ (none w h k false p o) l = absurd (let z : ◌≡◌ {A = ℕ} 0 1 = cc in omega arith)

pub sized : (n : ℕ) (g : Glass) → Good n g → Sized g
sized n _ (one u o) = let p = o.pane in record { some_wide = p.some_wide; wide = p.wide; some_high = (let h = p.some_high in omega arith); high = p.high; next = (let l = o.left in omega arith) }
sized n _ (none w h k a p o) = record { some_wide = o.some_wide; wide = o.wide; some_high = o.some_high; high = o.high; next = (let l = o.left in omega arith) }

-- one thing less may come
fewer : (n : ℕ) (u : One) → OneOk (suc n) u → OneOk n u
fewer n u o = record { pane = o.pane; reads = o.reads; silent = o.silent; number = o.number; left = (let l = o.left in omega arith) }

as_one : (n : ℕ) (g : Glass) (u : One) → g ≡ one_glass u → OneOk n u → Good n g
as_one n g u e o = subst (Good n) (sym e) (one u o)

as_none : (n : ℕ) (g : Glass) (w h k : ℕ) (a p : Bool) → g ≡ empty w h a k p → EmptyOk n (empty w h a k p) → Good n g
as_none n g w h k a p e o = subst (Good n) (sym e) (none w h k a p o)

-- proper sizes
pub record ProperSize (w h : ℕ) : Type 0 where
  pub some_wide : 1 ≤ w
  pub wide : w ≤ 200
  pub some_high : 2 ≤ h
  pub high : h ≤ 60

pub proper_size : (w h : ℕ) → proper_event (attach w h) ≡ true → ProperSize w h
unfolding proper_event
proper_size w h e =
    let a = and_parts (leb 1 w && leb w 200) _ e in
    let b = and_parts (leb 1 w) _ a.0 in
    let c = and_parts (leb 2 h) _ a.1 in
    record { some_wide = leb-true _ _ b.0; wide = leb-true _ _ b.1; some_high = leb-true _ _ c.0; high = leb-true _ _ c.1 }

-- a pane of the whole room
room_wide : (w h : ℕ) → ProperSize w h → pane_wide (room_of w h) ≡ w
room_wide w h p = let a = p.some_wide in omega arith

room_high : (w h : ℕ) → ProperSize w h → pane_high (room_of w h) ≡ h - 1
room_high w h p = let a = p.some_high in omega arith

pub fitted_reads : (t : Term) (w h : ℕ) → Reads t → Reads (fitted t w h)
fitted_reads t w h r = record { writes = tt; saves = tt; saved_row = omega arith; saved_col = omega arith; short = r.short }

pub fresh_reads : (w h : ℕ) → Reads (fresh w h)
fresh_reads w h = record { writes = tt; saves = tt; saved_row = omega arith; saved_col = omega arith; short = tt }

-- what is kept of the pane's terminal at another size
record FittedOk (w h : ℕ) (t : Term) : Type 0 where
  sound : Sound w (h - 1) t
  fine : Fine t
  reads : Reads t
  silent : t.answer ≡ []

resized_ok : (n : ℕ) (u : One) (w h : ℕ) → ProperSize w h → OneOk n u → FittedOk w h (resized u w h).term
resized_ok n u w h p o = go (cases_Bool (as_large (room_of w h) u.term))
  where
    q : PaneOk u
    q = o.pane

    go : (as_large (room_of w h) u.term ≡ true) ⊎ (as_large (room_of w h) u.term ≡ false) → FittedOk w h (resized u w h).term
    go (inl a) =
        let b = and_parts (eqb u.term.wide (pane_wide (room_of w h))) _ a in
        let c : u.wide ≡ w = (let x = eqb-true _ _ b.0 in let y = q.sound.is_wide in let z = room_wide w h p in omega arith) in
        let d : u.high - 1 ≡ h - 1 = (let x = eqb-true _ _ b.1 in let y = q.sound.is_high in let z = room_high w h p in omega arith) in
        let s : Sound w (h - 1) u.term = subst (λ (k : ℕ). Sound k (h - 1) u.term) c (subst (λ (k : ℕ). Sound u.wide k u.term) d q.sound) in
        subst (FittedOk w h) (sym (cond-true (as_large (room_of w h) u.term) _ _ a)) (record { sound = s; fine = q.fine; reads = o.reads; silent = o.silent })
    go (inr a) =
        let t = fitted u.term (pane_wide (room_of w h)) (pane_high (room_of w h)) in
        let c = room_wide w h p in
        let d = room_high w h p in
        let s : Sound w (h - 1) t = subst (λ (k : ℕ). Sound k (h - 1) t) c (subst (λ (k : ℕ). Sound (pane_wide (room_of w h)) k t) d (sound_fitted _ _ u.term (omega arith) (omega arith))) in
        subst (FittedOk w h) (sym (cond-false (as_large (room_of w h) u.term) _ _ a))
        (record { sound = s; fine = fine_fitted u.term _ _ q.fine; reads = fitted_reads u.term (pane_wide (room_of w h)) (pane_high (room_of w h)) o.reads; silent = o.silent })

attach_ok : (n : ℕ) (u : One) (w h : ℕ) → ProperSize w h → OneOk n u → OneOk n (resized u w h)
attach_ok n u w h p o =
    let f = resized_ok n u w h p o in
    record {
      pane = record { some_wide = (let a = p.some_wide in omega arith); wide = p.wide; some_high = p.some_high; high = p.high; sound = f.sound; fine = f.fine };
      reads = f.reads;
      silent = f.silent;
      number = o.number;
      left = o.left;
    }

start_ok : (n k w h : ℕ) → ProperSize w h → k + suc n < 2 ^ 47 → OneOk n (started w h k)
start_ok n k w h p l =
    let c = room_wide w h p in
    let d = room_high w h p in
    let t = fresh (pane_wide (room_of w h)) (pane_high (room_of w h)) in
    record {
      pane = record {
        some_wide = (let a = p.some_wide in omega arith);
        wide = p.wide;
        some_high = p.some_high;
        high = p.high;
        sound = subst (λ (j : ℕ). Sound j (h - 1) t) c (subst (λ (j : ℕ). Sound (pane_wide (room_of w h)) j t) d (sound_fresh _ _ (omega arith) (omega arith)));
        fine = fine_fresh _ _;
      };
      reads = fresh_reads (pane_wide (room_of w h)) (pane_high (room_of w h));
      silent = refl;
      number = omega arith;
      left = omega arith;
    }

from_ok : (n : ℕ) (u : One) (bs : List ℕ) → OneOk n u → OneOk n (with_term u (with_answer (written u.term bs) []))
from_ok n u bs o =
    let p = o.pane in
    let r = held_written u.wide (u.high - 1) (λ s. Unit {0}) tt (λ s k e. tt) 9999 (2 ^ 64) (2 ^ 64) (omega arith) (let h = p.high in omega arith) (let w = p.wide in omega arith) u.term bs p.sound o.reads in
    record {
      pane = record {
        some_wide = p.some_wide;
        wide = p.wide;
        some_high = p.some_high;
        high = p.high;
        sound = sound_written u.wide (u.high - 1) u.term bs p.sound;
        fine = fine_answer (written u.term bs) [] (fine_written u.term bs p.fine);
      };
      reads = r;
      silent = refl;
      number = o.number;
      left = o.left;
    }

gone_ok : (n : ℕ) (u : One) → OneOk n u → EmptyOk n (empty u.wide u.high u.attached u.next u.prefix)
gone_ok n u o = let p = o.pane in record { is = refl; some_wide = p.some_wide; wide = p.wide; some_high = (let h = p.some_high in omega arith); high = p.high; left = o.left }

less : (n w h k : ℕ) (a p b q : Bool) → EmptyOk (suc n) (empty w h a k p) → EmptyOk n (empty w h b k q)
less n w h k a p b q o = record { is = refl; some_wide = o.some_wide; wide = o.wide; some_high = o.some_high; high = o.high; left = (let l = o.left in omega arith) }

module _ (known : ℕ → Bool) (few : (c : ℕ) → (c ≡ 100 → ⊥) → known c ≡ false) where
  one_turn : (n : ℕ) (u : One) (ev : Event) → proper_event ev ≡ true → OneOk n u → Good n (turn known (one_glass u) ev).next
  one_turn n u (key c) p o = let k = key_next known few u c in as_one n _ (with_look u k.0 k.1) k.2 (record { pane = record { some_wide = o.pane.some_wide; wide = o.pane.wide; some_high = o.pane.some_high; high = o.pane.high; sound = o.pane.sound; fine = o.pane.fine }; reads = o.reads; silent = o.silent; number = o.number; left = o.left })
  one_turn n u (from i bs) p o = elim (cases_eq u.id i) [
    | inl e ↦ subst (λ (j : ℕ). Good n (turn known (one_glass u) (from j bs)).next) e (as_one n _ _ (from_next known few u bs) (from_ok n u bs o))
    | inr e ↦ as_one n _ u (from_other known few u i bs e).0 o
  ]
  one_turn n u (gone i) p o = elim (cases_eq u.id i) [
    | inl e ↦ subst (λ (j : ℕ). Good n (turn known (one_glass u) (gone j)).next) e (as_none n _ _ _ _ _ _ (gone_next known few u).0 (gone_ok n u o))
    | inr e ↦ as_one n _ u (gone_other known few u i e).0 o
  ]
  one_turn n u (attach w h) p o = as_one n _ (resized u w h) (attach_next known few u w h).0 (attach_ok n u w h (proper_size w h p) o)

  pub turn_good : (n : ℕ) (g : Glass) (ev : Event) → proper_event ev ≡ true → Good (suc n) g → Good n (turn known g ev).next
  turn_good n _ ev p (one u o) = one_turn n u ev p (fewer n u o)
  turn_good n _ (key c) p (none w h k a b o) = let e = key_empty known few w h k a b c in as_none n _ w h k e.0 e.1 e.2 (less n w h k a b e.0 e.1 o)
  turn_good n _ (from i bs) p (none w h k a b o) = as_none n _ w h k a b (from_empty known few w h k a b i bs).0 (less n w h k a b a b o)
  turn_good n _ (gone i) p (none w h k a b o) = as_none n _ w h k a b (gone_empty known few w h k a b i).0 (less n w h k a b a b o)
  turn_good n _ (attach w₁ h₁) p (none w h k a b o) = as_one n _ (started w₁ h₁ k) (first_attach known few w₁ h₁ w h k a b).0 (start_ok n k w₁ h₁ (proper_size w₁ h₁ p) o.left)

  pub few_says : (n : ℕ) (g : Glass) (ev : Event) → Good n g → length (turn known g ev).says ≤ 1
  few_says n _ (key c) (one u o) = (key_next known few u c).3
  few_says n _ (from i bs) (one u o) = elim (cases_eq u.id i) [
    | inl e ↦ subst (λ (j : ℕ). length (turn known (one_glass u) (from j bs)).says ≤ 1) e (from_says known few u bs)
    | inr e ↦ (let z = ap length (from_other known few u i bs e).1 in omega arith)
  ]
  few_says n _ (gone i) (one u o) = elim (cases_eq u.id i) [
    | inl e ↦ subst (λ (j : ℕ). length (turn known (one_glass u) (gone j)).says ≤ 1) e (let z = ap length (gone_next known few u).1 in omega arith)
    | inr e ↦ (let z = ap length (gone_other known few u i e).1 in omega arith)
  ]
  few_says n _ (attach w h) (one u o) = (attach_next known few u w h).1
  few_says n _ (key c) (none w h k a b o) = (key_empty known few w h k a b c).3
  few_says n _ (from i bs) (none w h k a b o) = let z = ap length (from_empty known few w h k a b i bs).1 in omega arith
  few_says n _ (gone i) (none w h k a b o) = let z = ap length (gone_empty known few w h k a b i).1 in omega arith
  few_says n _ (attach w₁ h₁) (none w h k a b o) = (first_attach known few w₁ h₁ w h k a b).1

  -- whoever attaches looks at a window
  pub attach_looks : (n : ℕ) (g : Glass) (w h : ℕ) → Good n g → looks (turn known g (attach w h)).next ≡ true
  attach_looks n _ w h (one u o) = ap looks (attach_next known few u w h).0
  attach_looks n _ w h (none w₁ h₁ k a b o) = ap looks (first_attach known few w h w₁ h₁ k a b).0

-- the view goes along
same_size : (g g₁ : Glass) (v : View) → g₁.wide ≡ g.wide → g₁.high ≡ g.high → Viewed g v → Viewed g₁ v
same_size g g₁ v e f o =
    record { is_wide = o.is_wide ∙ sym e; is_high = o.is_high ∙ sym f; long = rw (e, f) o.long; small = o.small; pen = rw (e, f) o.pen }

small_blanks : (n : ℕ) → every (λ x. ltb x (2 ^ 64)) (so_many n blank_number) ≡ true
small_blanks zero = refl
small_blanks (suc n) = small_blanks n

pub fresh_viewed : (g : Glass) (w h : ℕ) → g.wide ≡ w → g.high ≡ h → 0 < w → 0 < h → Viewed g (fresh_view w h)
fresh_viewed g w h e f a b =
    record {
      is_wide = sym e;
      is_high = sym f;
      long = rw (e, f) (length-replicate (h * w) blank_number);
      small = small_blanks (h * w);
      pen = rw (e, f) (record { row = b; col = a; marks = omega arith; fore = omega arith; back = omega arith });
    }

wide_of : Glass → ℕ
wide_of g = g.wide

module _ (known : ℕ → Bool) (few : (c : ℕ) → (c ≡ 100 → ⊥) → known c ≡ false) where
  pub turn_viewed : (n : ℕ) (g : Glass) (v : View) (ev : Event) → proper_event ev ≡ true → Good n g → Viewed g v → Viewed (turn known g ev).next (view_at ev v)
  unfolding view_at
  turn_viewed n _ v (key c) p (one u o) w =
      let k = (key_next known few u c).2 in same_size (one_glass u) _ v (ap (λ (g : Glass). g.wide) k) (ap (λ (g : Glass). g.high) k) w
  turn_viewed n _ v (from i bs) p (one u o) w = elim (cases_eq u.id i) [
    | inl e ↦ subst (λ (j : ℕ). Viewed (turn known (one_glass u) (from j bs)).next v) e
        (let k = from_next known few u bs in same_size (one_glass u) _ v (ap (λ (g : Glass). g.wide) k) (ap (λ (g : Glass). g.high) k) w)
    | inr e ↦ (let k = (from_other known few u i bs e).0 in same_size (one_glass u) _ v (ap (λ (g : Glass). g.wide) k) (ap (λ (g : Glass). g.high) k) w)
  ]
  turn_viewed n _ v (gone i) p (one u o) w = elim (cases_eq u.id i) [
    | inl e ↦ subst (λ (j : ℕ). Viewed (turn known (one_glass u) (gone j)).next v) e
        (let k = (gone_next known few u).0 in same_size (one_glass u) _ v (ap (λ (g : Glass). g.wide) k) (ap (λ (g : Glass). g.high) k) w)
    | inr e ↦ (let k = (gone_other known few u i e).0 in same_size (one_glass u) _ v (ap (λ (g : Glass). g.wide) k) (ap (λ (g : Glass). g.high) k) w)
  ]
  turn_viewed n _ v (attach a b) p (one u o) w =
      let k = (attach_next known few u a b).0 in let q = proper_size a b p in
      fresh_viewed _ a b (ap (λ (g : Glass). g.wide) k) (ap (λ (g : Glass). g.high) k) (let x = q.some_wide in omega arith) (let x = q.some_high in omega arith)
  turn_viewed n _ v (key c) p (none x y k a b o) w =
      let e = (key_empty known few x y k a b c).2 in same_size (empty x y a k b) _ v (ap (λ (g : Glass). g.wide) e) (ap (λ (g : Glass). g.high) e) w
  turn_viewed n _ v (from i bs) p (none x y k a b o) w =
      let e = (from_empty known few x y k a b i bs).0 in same_size (empty x y a k b) _ v (ap (λ (g : Glass). g.wide) e) (ap (λ (g : Glass). g.high) e) w
  turn_viewed n _ v (gone i) p (none x y k a b o) w =
      let e = (gone_empty known few x y k a b i).0 in same_size (empty x y a k b) _ v (ap (λ (g : Glass). g.wide) e) (ap (λ (g : Glass). g.high) e) w
  turn_viewed n _ v (attach c d) p (none x y k a b o) w =
      let e = (first_attach known few c d x y k a b).0 in let q = proper_size c d p in
      fresh_viewed _ c d (ap (λ (g : Glass). g.wide) e) (ap (λ (g : Glass). g.high) e) (let z = q.some_wide in omega arith) (let z = q.some_high in omega arith)
