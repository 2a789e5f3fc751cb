-- A run of the promise and serving, step by step.
use Rattle.std.proofs.Common.{◌≡◌, ℕ, zero, suc, ◌+◌, Bool, true, false, ◌&&◌, List, Err, [], ◌++◌, length, sym, refl, ap, ◌∙◌, append_assoc, append-nil, arith}
use Rattle.std.proofs.lemmas.List.{length-append}
use Rattle.meaning.specs.Words.{pick}
use Rattle.meaning.specs.Screen.{Term}
use Rattle.meaning.specs.Bytes.{written}
use Rattle.meaning.specs.Panes.{Says}
use Rattle.meaning.specs.Promise.{Engine, ToldIt, next, Act, write, says, wait, Ran, ran, a_row, one_act, runs}
use Rattle.meaning.proofs.Parts.{in_parts}
use Rattle.serve.specs.declared.ended.Fault.TheVariants.{Stuck}
use Rattle.serve.specs.Log.{Log, noted}
use Rattle.serve.specs.Serving.{Went, went, act_done, over_by, goes}
use Rattle.serve.specs.Promised.{SameWay, AsPromised}

-- after a write of bs
behind : (r : Ran) (g : Went) (t : Term) (b : ℕ) (l : Log) (bs : List ℕ) → SameWay r g (written t bs) (b + length bs) (noted l (write bs)) → SameWay r g t b l
behind r g t b l bs w = record {
  memory = w.memory;
  waits = w.waits;
  bytes = bs ++ w.bytes;
  logged = w.logged ∙ append_assoc l.for_viewer bs w.bytes;
  shown = w.shown ∙ sym (in_parts t bs w.bytes);
  count = let c = w.count in let k = length-append bs w.bytes in omega arith;
}

-- nothing was written
beside : (r : Ran) (g : Went) (t : Term) (b : ℕ) (l : Log) (s : Says) → SameWay r g t b (noted l (says s)) → SameWay r g t b l
beside r g t b l s w = record { memory = w.memory; waits = w.waits; bytes = w.bytes; logged = w.logged ∙ ap (λ (x : List ℕ). x ++ w.bytes) (append-nil l.for_viewer); shown = w.shown; count = w.count }

waiting : (ended : Bool) (m : List ℕ) (t : Term) (ss : List Says) (b : ℕ) (l : Log) → SameWay (ran m t ss b 0) (act_done (λ m₁ l₁ ended₁. went m₁ l₁ (Err Stuck)) m l ended wait) t b l
unfolding written
waiting ended m t ss b l = record { memory = refl; waits = refl; bytes = []; logged = refl; shown = refl; count = omega arith }

-- one act, and then the rest as it is known to go
module _ (looked : Bool) (n : ℕ) (e : Engine) (rest : (m : List ℕ) (t : Term) (ss : List Says) (b : ℕ) (l : Log) (ended : Bool) → (runs looked n e m next t ss b).end ≡ 0 → SameWay (runs looked n e m next t ss b) (goes true n e m next l ended) t b l) where
  abbrev run_on : List ℕ → ToldIt → Term → List Says → ℕ → Ran
  run_on m ev t ss b = runs looked n e m ev t ss b

  abbrev serve_on : List ℕ → Log → Bool → Went
  serve_on m l ended = goes true n e m next l ended

  wrote : (f : Bool) (m : List ℕ) (t : Term) (ss : List Says) (b : ℕ) (l : Log) (ended : Bool) (bs : List ℕ)
      → (pick f (run_on m next (written t bs) ss (b + length bs)) (ran m t ss b 1001)).end ≡ 0
      → SameWay (pick f (run_on m next (written t bs) ss (b + length bs)) (ran m t ss b 1001)) (serve_on m (noted l (write bs)) ended) t b l
  wrote true m t ss b l ended bs h = behind _ _ t b l bs (rest m (written t bs) ss (b + length bs) (noted l (write bs)) ended h)
  wrote false m t ss b l ended bs h = absurd (omega arith)

  by_act : (act : Act) (m : List ℕ) (t : Term) (ss : List Says) (b : ℕ) (l : Log) (ended : Bool) → (one_act looked run_on t ss b m act).end ≡ 0
      → SameWay (one_act looked run_on t ss b m act) (act_done serve_on m l ended act) t b l
  unfolding one_act
  by_act (write bs) m t ss b l ended h = wrote (looked && a_row bs) m t ss b l ended bs h
  by_act (says s) m t ss b l ended h = beside _ _ t b l s (rest m t _ b (noted l (says s)) (over_by s ended) h)
  by_act wait m t ss b l ended h = waiting ended m t ss b l

pub as_promised : AsPromised
unfolding runs goes
as_promised looked zero e m ev t ss b l ended h = absurd (omega arith)
as_promised looked (suc n) e m ev t ss b l ended h =
    by_act looked n e (λ m₁ t₁ ss₁ b₁ l₁ ended₁ h₁. as_promised looked n e m₁ next t₁ ss₁ b₁ l₁ ended₁ h₁) (e.step m ev).act (e.step m ev).memory t ss b l ended h
