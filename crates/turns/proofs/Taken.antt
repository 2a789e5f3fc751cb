-- A turn taken over the memory as an array and over the first 65,536 bytes of a row is one over both as they were lent.
use Rattle.std.proofs.Common.{◌≡◌, ℕ, ◌≤◌, List, ◌++◌, length, take, drop, ap, ◌∙◌, subst, arith}
use Rattle.std.specs.Array.{IsWholeChunk, IsFirstChunk}
use Rattle.std.proofs.lemmas.List.{take-append-drop, length-append}
use Rattle.meaning.specs.Panes.{Says, send, start, sized, stop, leave, over}
use Rattle.meaning.specs.Promise.{Act, write, says, wait}
use Rattle.meaning.specs.Entry.{ActTold, SaysTold}
use Rattle.meaning.specs.declared.answer.Told.{Told}
use Rattle.engine.specs.State.{Out}
use Rattle.turns.specs.Does.{Does, Turns}
use Rattle.turns.proofs.Lent.{lent_row}

-- the first n bytes of out were lent, and are front now
module _ (out front : List ℕ) (n : ℕ) (room : n ≤ length out) (long : length front ≡ n) where
  same_row : front ≡ take n out → front ++ drop n out ≡ out
  same_row e = ap (λ (z : List ℕ). z ++ drop n out) e ∙ take-append-drop n out

  told_row : (bs : List ℕ) → front ≡ bs ++ drop (length bs) (take n out) → front ++ drop n out ≡ bs ++ drop (length bs) out
  told_row bs e = lent_row out bs front n room (let a = ap length e in let b = length-append bs (drop (length bs) (take n out)) in omega arith) e

  says_lent : (s : Says) (r : Told) → SaysTold s r (take n out) front → SaysTold s r out (front ++ drop n out)
  unfolding SaysTold
  says_lent (send i bs) r p = (p.0, told_row bs p.1)
  says_lent (start i w h) r p = (p.0, same_row p.1)
  says_lent (sized i w h) r p = (p.0, same_row p.1)
  says_lent (stop i) r p = (p.0, same_row p.1)
  says_lent leave r p = (p.0, same_row p.1)
  says_lent over r p = (p.0, same_row p.1)

  pub act_lent : (act : Act) (r : Told) → ActTold act r (take n out) front → ActTold act r out (front ++ drop n out)
  unfolding ActTold
  act_lent (write bs) r p = (p.0, told_row bs p.1)
  act_lent (says s) r p = says_lent s r p
  act_lent wait r p = (p.0, same_row p.1)

pub taken : (o : List ℕ → Out) (m array m₁ out first front : List ℕ) (r : Told) → IsWholeChunk m array 238304 → IsFirstChunk out first 65536 → length front ≡ 65536
    → Does (o array) array m₁ r first front → Turns (o m) m m₁ r out (front ++ drop 65536 out)
taken o m array m₁ out first front r w f l d₀ =
    let d₁ = subst (λ (y : List ℕ). Does (o y) y m₁ r first front) w.same d₀ in
    let d = subst (λ (y : List ℕ). Does (o m) m m₁ r y front) f.same d₁ in
    record {
      taken = λ _ _. record { memory = d.memory; act = act_lent out front 65536 f.enough l (o m).act r d.act };
      other_size = λ n. absurd (n w.long);
      short_row = λ s. absurd (let e = f.enough in omega arith);
    }
