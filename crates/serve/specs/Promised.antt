-- Serving goes the way of which the promise speaks: where a run of the promise comes to wait, serving in as many steps does, with the same memory, and the
-- bytes in the log are those that are on the screen then.
use Rattle.std.specs.Prelude.{◌≡◌, ℕ, ◌+◌, Bool, true, false, List, Ok, Err, Result, ◌++◌, length}
use Rattle.meaning.specs.Screen.{Term}
use Rattle.meaning.specs.Bytes.{written}
use Rattle.meaning.specs.Panes.{Says}
use Rattle.meaning.specs.Promise.{Engine, ToldIt, Ran, runs}
use Rattle.serve.specs.declared.ended.Ended.{Ended}
use Rattle.serve.specs.declared.ended.Fault.{Fault}
use Rattle.serve.specs.Log.{Log}
use Rattle.serve.specs.Serving.{Went, goes}

abbrev pub is_waiting : Result Ended Fault → Bool
is_waiting (Ok s) = true
is_waiting (Err f) = false

-- a run from screen t with b bytes so far, and serving from log l
pub record SameWay (r : Ran) (g : Went) (t : Term) (b : ℕ) (l : Log) : Type 0 where
  pub memory : g.memory ≡ r.memory
  pub waits : is_waiting g.end ≡ true
  pub bytes : List ℕ
  pub logged : g.log.for_viewer ≡ l.for_viewer ++ bytes
  pub shown : r.screen ≡ written t bytes
  pub count : r.bytes ≡ b + length bytes

abbrev pub AsPromised : Type 0
AsPromised =
    (looked : Bool) (n : ℕ) (e : Engine) (m : List ℕ) (ev : ToldIt) (t : Term) (ss : List Says) (b : ℕ) (l : Log) (ended : Bool)
    → (runs looked n e m ev t ss b).end ≡ 0 → SameWay (runs looked n e m ev t ss b) (goes true n e m ev l ended) t b l
