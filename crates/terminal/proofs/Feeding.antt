-- The loop over bytes: what is left, from the state so far, gives the whole.
use Rattle.std.proofs.Common.{◌≡◌, ℕ, ◌+◌, ◌-◌, ◌*◌, ◌<◌, ◌≤◌, List, length, get_or, drop, sym, refl, ap, ◌∙◌, arith}
use Rattle.std.proofs.lemmas.List.{at_drop_more, at_drop_all, drop-drop}
use Rattle.meaning.specs.Screen.{Term}
use Rattle.meaning.specs.Bytes.{byte, written}
use Rattle.meaning.proofs.Sound.{Sound, rows_decide, sound_byte}
use Rattle.grid.proofs.Regions.{length_rows, rows_wide}
use Rattle.terminal.specs.Terms.{term_on}
use Rattle.terminal.specs.Answer.{Behind, said}
use Rattle.output.specs.declared.Buffer.{Buffer}
use Rattle.terminal.specs.Does.{state_of, Does, Says}
use Rattle.terminal.specs.declared.screen.Screen.{Screen}
use Rattle.terminal.specs.declared.state.Terminal.{Terminal}

-- i bytes have been written
pub record Feeding (first : Screen) (bytes : List ℕ) (i : ℕ) (s : Screen) : Type 0 where
  pub term : written (state_of s) (drop i bytes) ≡ written (state_of first) bytes
  pub wide : s.term.size.wide ≡ first.term.size.wide
  pub high : s.term.size.high ≡ first.term.size.high
  pub same_row : s.cells.ghost_name ≡ first.cells.ghost_name
  pub answer : Behind (10 * i) first.answer.now s.answer.now
  pub same_answer : s.answer.ghost_name ≡ first.answer.ghost_name

-- a terminal with all its cells is a sound screen
pub sound_term : (t : Terminal) (xs a : List ℕ) → length xs ≡ t.size.high * t.size.wide → Sound t.size.wide t.size.high (term_on t xs a)
sound_term t xs a l = record {
  is_wide = refl;
  is_high = refl;
  as_high = length_rows _ _ xs;
  as_wide = (rows_decide _ _).0 (rows_wide _ _ xs l);
  on_row = t.row_ok;
  on_col = t.col_ok;
  ordered = t.top_ok;
  inside = t.bottom_ok;
}

pub nothing_said : (most : ℕ) (b : Buffer) → Behind most b b
nothing_said most b = record { least = omega arith; few = omega arith; kept = refl; long = refl; same_row = refl }

-- what answers nothing answers at most so much
pub quietly : (most : ℕ) {old new : Screen} {f g : Term → Term} → ((t : Term) → g t ≡ f t) → Does old new f → Says most old new g
quietly most {old} {new} e d = record {
  term = d.term ∙ sym (e (state_of old));
  same_row = d.same_row;
  answer = let s = d.same_answer in rw s (nothing_said most old.answer.now);
  same_answer = let s = d.same_answer in rw s;
}

pub feeding_none : (s : Screen) (bytes : List ℕ) → Feeding s bytes 0 s
feeding_none s bytes = record {
  term = refl;
  wide = refl;
  high = refl;
  same_row = refl;
  answer = nothing_said 0 s.answer.now;
  same_answer = refl;
}

kept_on : (n r : ℕ) (old mid new : List ℕ) → n ≤ r → drop r new ≡ drop r mid → drop n mid ≡ drop n old → drop r new ≡ drop r old
kept_on n r old mid new le e f =
    let s : n + (r - n) ≡ r = omega arith in
    let g : drop r mid ≡ drop r old = (let h = ap (λ (xs : List ℕ). drop (r - n) xs) f in let k = sym (drop-drop (r - n) n mid) ∙ (h ∙ drop-drop (r - n) n old) in rw s at k) in
    e ∙ g

then : {m n : ℕ} {x y z : Buffer} → Behind m x y → Behind n y z → Behind (m + n) x z
then {m} {n} {x} {y} {z} p q = record {
  least = let a = p.least in let b = q.least in omega arith;
  few = let a = p.few in let b = q.few in omega arith;
  kept = kept_on y.len z.len x.bytes.now y.bytes.now z.bytes.now q.least q.kept p.kept;
  long = q.long ∙ p.long;
  same_row = q.same_row ∙ p.same_row;
}

pub feeding_more : (first : Screen) (bytes : List ℕ) (i : ℕ) (s r : Screen) → Feeding first bytes i s → i < length bytes → Says 10 s r (λ t. byte t (get_or bytes i 0)) → Feeding first bytes (i + 1) r
unfolding written
feeding_more first bytes i s r f h e =
    let u = sound_byte s.term.size.wide s.term.size.high (state_of s) (get_or bytes i 0) (sound_term s.term s.cells.now (said s.answer.now) s.whole) in
    let n : 10 * i + 10 ≡ 10 * (i + 1) = omega arith in
    record {
      term = ap (λ (v : Term). written v (drop (i + 1) bytes)) e.term ∙ (sym (at_drop_more (written (state_of s)) bytes i 0 h) ∙ f.term);
      wide = ap (λ (v : Term). v.wide) e.term ∙ (u.is_wide ∙ f.wide);
      high = ap (λ (v : Term). v.high) e.term ∙ (u.is_high ∙ f.high);
      same_row = e.same_row ∙ f.same_row;
      answer = rw n at (then f.answer e.answer);
      same_answer = e.same_answer ∙ f.same_answer;
    }

pub feeding_all : (first : Screen) (bytes : List ℕ) (i : ℕ) (s : Screen) → Feeding first bytes i s → i ≡ length bytes → Says (10 * length bytes) first s (λ t. written t bytes)
unfolding written
feeding_all first bytes i s f e = record {
  term = sym (at_drop_all (written (state_of s)) bytes i (omega arith)) ∙ f.term;
  same_row = f.same_row;
  answer = rw (← e) f.answer;
  same_answer = f.same_answer;
}
