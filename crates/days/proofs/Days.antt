-- The lines of a day: what the iterator over them gives, and the loop that reads them.
use Rattle.std.proofs.Common.{◌≡◌, ℕ, suc, ◌+◌, ◌-◌, ◌<◌, ◌≤◌, true, false, not, eqb, ◌⊎◌, List, [], ◌∷◌, ◌++◌, map, length, get_or, take, drop, is_ok, Err, sym, refl, ap, ◌∙◌, inl, inr, ⊎_elim, append_assoc, append-nil, suc-add, one-add, arith, Bor}
use Rattle.std.proofs.lemmas.List.{length-append, length-map, length-take-le, map_push, take_more, take_all, take-map, get_or-map}
use Rattle.std.specs.Iterator.{YieldsFirstRef}
use Rattle.std.proofs.lemmas.Iterator.{YieldsList}
use Rattle.std.proofs.lemmas.Iterator.Consumers.{YieldsList-from_first}
use Rattle.std.proofs.lemmas.Bool.{cond-true, cond-false, cases_Bool}
use Rattle.meaning.specs.Words.{every}
use Rattle.days.specs.declared.fault.Fault.{Fault}
use Rattle.days.specs.declared.fault.Fault.TheVariants.{Memory}
use Rattle.days.specs.declared.line.Line.{Line}
use Rattle.days.specs.declared.lines.Lines.{Lines}
use Rattle.days.specs.Line.{line_of, up_to}
use Rattle.days.specs.Day.{lines_from, lines_of, readings, said, BadLine}

abbrev Cut : List ℕ → List ℕ → Type 0
Cut begun cs = lines_from begun cs ≡ (begun ++ take (up_to cs 10) cs) ∷ lines_of (drop (up_to cs 10 + 1) cs)

ends_here : (begun cs : List ℕ) (c : ℕ) → eqb c 10 ≡ true → Cut begun (c ∷ cs)
unfolding lines_from
ends_here begun cs c e =
    let n : up_to (c ∷ cs) 10 ≡ 0 = cond-false _ _ _ (ap not e) in
    cond-true _ _ _ e ∙ rw n (ap (λ xs. xs ∷ lines_of cs) (sym (append-nil begun)))

goes_on : (begun cs : List ℕ) (c : ℕ) → eqb c 10 ≡ false → Cut (begun ++ c ∷ []) cs → Cut begun (c ∷ cs)
unfolding lines_from
goes_on begun cs c e cut =
    let n : up_to (c ∷ cs) 10 ≡ suc (up_to cs 10) = cond-true _ _ _ (ap not e) ∙ one-add _ in
    cond-false _ _ _ e ∙ cut ∙ ap (λ xs. xs ∷ lines_of (drop (up_to cs 10 + 1) cs)) (append_assoc begun (c ∷ []) _)
    ∙ rw (n, suc-add)

lines_cut : (begun cs : List ℕ) → 0 < length begun + length cs → Cut begun cs
unfolding lines_from
lines_cut [] [] h = absurd (omega arith)
lines_cut (x ∷ xs) [] h = ap (λ ys. (x ∷ ys) ∷ []) (sym (append-nil xs))
lines_cut begun (c ∷ cs) h =
    ⊎_elim (ends_here begun cs c) (λ e. goes_on begun cs c e (lines_cut (begun ++ c ∷ []) cs (simp length-append (omega arith)))) (cases_Bool (eqb c 10))

-- what the iterator over lines gives, and where it ends
pub lines_first : (cs : List ℕ) → 0 < length cs → lines_of cs ≡ take (up_to cs 10) cs ∷ lines_of (drop (up_to cs 10 + 1) cs)
lines_first cs h = lines_cut [] cs (omega arith)

pub no_lines : (cs : List ℕ) → length cs ≤ 0 → lines_of cs ≡ []
unfolding lines_from
no_lines [] h = refl
no_lines (c ∷ cs) h = absurd (omega arith)

pub all_lines : (cs : List ℕ) (s : Lines) → s.0.now ≡ cs → YieldsList (YieldsFirstRef (λ (l : Lines). lines_of l.0.now)) (λ (x : Bor (List ℕ)). x.now) s (lines_of cs)
all_lines cs s e = YieldsList-from_first (λ (x : Bor (List ℕ)). x.now) (λ (l : Lines). lines_of l.0.now) (lines_of cs) (ap lines_of e)

all_ok : (ls : List Line) → every is_ok (map said ls) ≡ true
all_ok [] = refl
all_ok (l ∷ ls) = all_ok ls

-- where the loop stands: the first n lines are kept, and `line` is the next
module _ (text line : List ℕ) (old : List Line) (n : ℕ) (so_far : map said old ≡ map line_of (take n (lines_of text))) (some : n < length (lines_of text)) (next : line ≡ get_or (lines_of text) n line) where
  pub one_line_on : (new : List Line) → map said new ≡ map said old ++ line_of line ∷ [] → map said new ≡ map line_of (take (n + 1) (lines_of text))
  one_line_on new p = p ∙ ap (λ xs. xs ++ line_of line ∷ []) so_far ∙ sym (map_push line_of (take n (lines_of text)) line)
      ∙ ap (map line_of) (ap (λ l. take n (lines_of text) ++ l ∷ []) next ∙ sym (take_more (lines_of text) n line some))

  as_many : length old ≡ n
  as_many = sym (length-map old said) ∙ ap length so_far ∙ length-map (take n (lines_of text)) line_of ∙ length-take-le n (lines_of text) (omega arith)

  pub line_is_bad : (k : ℕ) (e : Fault) → k ≡ length old → (e ≡ Memory) ⊎ (line_of line ≡ Err e) → BadLine (readings text) (record { line = k + 1; fault = e })
  line_is_bad k e p b =
      let i : k + 1 - 1 ≡ n = omega (arith, as_many) in
      record {
        counted = omega arith;
        within = simp length-map (omega (arith, as_many));
        before = rw (i, take-map line_of n (lines_of text), ← so_far) (all_ok old);
        bad = ⊎_elim inl (λ q. inr (rw i (get_or-map line_of (lines_of text) n line _ some ∙ ap line_of (sym next) ∙ q))) b;
      }

pub all_read : (text : List ℕ) (day : List Line) (n : ℕ) → map said day ≡ map line_of (take n (lines_of text)) → n ≡ length (lines_of text) → readings text ≡ map said day
all_read text day n so_far e = sym (so_far ∙ ap (map line_of) (take_all n (lines_of text) (omega arith)))
