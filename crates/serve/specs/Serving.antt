-- One thing served: the machine is told it and then to go on, again and again, until it waits.
use Rattle.std.specs.Prelude.{◌≡◌, ℕ, zero, suc, Bool, true, false, List, Some, None, Option, Ok, Err, Result}
use Rattle.meaning.specs.Words.{pick}
use Rattle.meaning.specs.Panes.{Event, Says, send, start, sized, stop, leave, over}
use Rattle.meaning.specs.Promise.{Engine, ToldIt, comes, next, Act, write, says, wait}
use Rattle.live.specs.Coming.{event_of}
pub use Rattle.live.specs.Coming.{sizes_fit}
use Rattle.live.specs.declared.coming.Coming.{Coming}
use Rattle.serve.specs.declared.ended.Ended.{Ended}
use Rattle.serve.specs.declared.ended.Ended.TheVariants.{Waits, Over}
use Rattle.serve.specs.declared.ended.Fault.{Fault}
use Rattle.serve.specs.declared.ended.Fault.TheVariants.{Stuck, Refused}
use Rattle.serve.specs.Log.{Log, noted}

-- how it went: the memory and the log afterwards, and how it ended
pub record Went : Type 0 where
  pub memory : List ℕ
  pub log : Log
  pub end : Result Ended Fault

abbrev pub went : List ℕ → Log → Result Ended Fault → Went
went m l s = record { memory = m; log = l; end = s }

-- whether it has been said that all is over
abbrev pub over_by : Says → Bool → Bool
over_by (send i bs) ended = ended
over_by (start i w h) ended = ended
over_by (sized i w h) ended = ended
over_by (stop i) ended = ended
over_by leave ended = ended
over_by over ended = true

-- one act: waiting is the end, and after any other it goes on
abbrev pub act_done : (List ℕ → Log → Bool → Went) → List ℕ → Log → Bool → Act → Went
act_done go m l ended (write bs) = go m (noted l (write bs)) ended
act_done go m l ended (says s) = go m (noted l (says s)) (over_by s ended)
act_done go m l ended wait = went m (noted l wait) (Ok (pick ended Over Waits))

-- up to n steps, the first with what came, then going on; fit says whether the sizes are right, and if not nothing is done
unfoldable pub goes : Bool → ℕ → Engine → List ℕ → ToldIt → Log → Bool → Went
goes fit zero e m ev l ended = went m l (Err Stuck)
goes fit (suc n) e m ev l ended =
    pick fit (act_done (λ m₁ l₁ ended₁. goes fit n e m₁ next l₁ ended₁) (e.step m ev).memory l ended (e.step m ev).act) (went m l (Err Refused))

-- what the machine is told: what has come, with its bytes beside it, or to go on
abbrev pub told_it : Option Coming → List ℕ → ToldIt
told_it None bs = next
told_it (Some x) bs = comes (event_of x bs)

-- memory, log and end are those of the machine e
pub record Serves (e : Engine) (budget : ℕ) (ev : Event) (memory out : List ℕ) (log : Log) (s : Result Ended Fault) (memory₁ : List ℕ) (log₁ : Log) : Type 0 where
  pub so : went memory₁ log₁ s ≡ goes (sizes_fit e memory out) budget e memory (comes ev) log false
