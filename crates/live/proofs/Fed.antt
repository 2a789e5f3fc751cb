-- A pane's terminal fed over its cells in memory, with its answer in the lent row.
use Rattle.std.proofs.Common.{◌≡◌, ℕ, ◌+◌, ◌-◌, ◌*◌, ◌≤◌, true, false, Some, None, Option, IsSome, MatchOption, rules, List, ◌++◌, length, take, drop, sym, ap, ◌∙◌, subst, arith, length-drop, length-take}
use borrow.Rule.Slice.PartMut.{put_mid}
use Rattle.std.proofs.lemmas.List.{take-append-drop}
use Rattle.std.proofs.lemmas.Bool.{and_from, eq-eqb, le-leb, both_ways}
use Rattle.meaning.specs.Screen.{Term}
use Rattle.meaning.specs.Bytes.{written}
use Rattle.terminal.specs.Terms.{term_on}
use Rattle.terminal.specs.Answer.{can_feed, Fed}
use Rattle.terminal.specs.declared.state.Terminal.{Terminal}
use Rattle.engine.specs.Areas.{over}
use Rattle.engine.proofs.Maps.{placed}
use Rattle.machine.specs.States.{terminal_in}
use Rattle.machine.proofs.Stays.{lent_over}
use Rattle.live.specs.Answered.{Answered}
use Rattle.turns.proofs.Lent.{few_cells, lent_cells, lent_row}

-- the pane's cells, as they are lent
pub length_lent : (m : List ℕ) (k : ℕ) → k ≤ 12000 → length m ≡ 238304 → length (take ((38304 + k) - 38304) (drop 38304 m)) ≡ k
length_lent m k h l = length-take ((38304 + k) - 38304) (drop 38304 m) ∙ (let d = length-drop 38304 m in omega arith)

-- what is lent is enough
pub lent_fits : (t : Terminal) (m bytes out : List ℕ) (k : ℕ) → k ≡ t.size.high * t.size.wide → length m ≡ 238304 → length bytes ≤ 4096 → 65536 ≤ length out
    → can_feed t (take ((38304 + k) - 38304) (drop 38304 m)) bytes (take 40960 out) ≡ true
lent_fits t m bytes out k e lm lb lo =
    let f = few_cells t.size in
    let c : length (take 40960 out) ≡ 40960 = length-take 40960 out ∙ omega arith in
    and_from _ _ (eq-eqb _ _ (length_lent m k (omega arith) lm ∙ e)) (and_from _ _ (le-leb (length bytes) 4096 lb) (le-leb (10 * length bytes) (length (take 40960 out)) (omega arith)))

-- so an answer comes
pub some_fed : (t t₁ : Terminal) (m bytes out cells front : List ℕ) (k : ℕ) (o : Option ℕ) → k ≡ t.size.high * t.size.wide → length m ≡ 238304 → length bytes ≤ 4096 → 65536 ≤ length out
    → MatchOption o
    ((can_feed t (take ((38304 + k) - 38304) (drop 38304 m)) bytes (take 40960 out) ≡ false) × (t₁ ≡ t) × (cells ≡ take ((38304 + k) - 38304) (drop 38304 m)) × (front ≡ take 40960 out))
    (λ n. (can_feed t (take ((38304 + k) - 38304) (drop 38304 m)) bytes (take 40960 out) ≡ true) × Fed t (take ((38304 + k) - 38304) (drop 38304 m)) bytes (take 40960 out) n t₁ cells front)
    → IsSome o
some_fed t t₁ m bytes out cells front k None e lm lb lo h = absurd (both_ways _ h.0 (lent_fits t m bytes out k e lm lb lo))
some_fed t t₁ m bytes out cells front k (Some n) e lm lb lo h = search rules

-- the first r of a row and those behind, which are as they were
row_of : (front out bs : List ℕ) (r : ℕ) → take r front ≡ bs → r ≤ length front → drop r front ≡ drop r out → (r ≡ length bs) × (front ≡ bs ++ drop (length bs) out)
row_of front out bs r e l d =
    let n : r ≡ length bs = (let a = ap length e in let b = length-take r front in omega arith) in
    (n, sym (take-append-drop r front) ∙ (ap (λ (z : List ℕ). z ++ drop r front) e ∙ (ap (λ (z : List ℕ). bs ++ z) d ∙ ap (λ (j : ℕ). bs ++ drop j out) n)))

pub fed_answers : (t t₁ : Terminal) (m bytes out cs front : List ℕ) (k r : ℕ) → k ≡ t.size.high * t.size.wide → length bytes ≤ 4096 → 65536 ≤ length out
    → length cs ≡ k → length front ≡ 40960 → Fed t (take ((38304 + k) - 38304) (drop 38304 m)) bytes (take 40960 out) r t₁ cs front
    → Answered t m bytes out r t₁ (put_mid 38304 ((38304 + k) - 38304) m cs) (front ++ drop 40960 out)
fed_answers t t₁ m bytes out cs front k r e lb lo lc lf f₀ =
    let n = t.size.high * t.size.wide in
    let f = subst (λ (xs : List ℕ). Fed t xs bytes (take 40960 out) r t₁ cs front) (lent_cells m n k e) f₀ in
    let u = written (terminal_in t m) bytes in
    let few = f.few in
    let a : take r front ≡ u.answer = ap (λ (z : Term). z.answer) f.term in
    let q = row_of front (take 40960 out) u.answer r a (omega arith) f.kept in
    let c = q.0 in
    record {
      cells = cs;
      long = lc ∙ e;
      memory = lent_over m 38304 ((38304 + k) - 38304) cs (omega arith) ∙ ap (λ (j : ℕ). over m j cs) (sym placed.cells);
      wide = f.wide;
      high = f.high;
      term = ap (term_on t₁ cs) (sym a) ∙ f.term;
      count = c;
      so = lent_row out u.answer front 40960 (omega arith) (omega arith) q.1;
    }
