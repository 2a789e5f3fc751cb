-- A turn has been taken: the memory is the definition's, and the act is told.
use Rattle.std.specs.Prelude.{◌≡◌, ℕ, ◌<◌, ◌≤◌, List, length, ◌≢◌}
use Rattle.meaning.specs.Words.{pick, none_of}
use Rattle.meaning.specs.Panes.{Glass}
use Rattle.meaning.specs.Promise.{write, wait}
use Rattle.meaning.specs.Entry.{ActTold}
use Rattle.meaning.specs.declared.answer.Told.{Told}
use Rattle.meaning.specs.declared.answer.Told.TheVariants.{No}
use Rattle.engine.specs.State.{Out, View, out, closing, after_closing}
use Rattle.engine.specs.Memory.{encode}

pub record Does (o : Out) (m m₁ : List ℕ) (r : Told) (out out₁ : List ℕ) : Type 0 where
  pub memory : m₁ ≡ encode m o.state
  pub act : ActTold o.act r out out₁

-- nothing was done
pub record Refused (m m₁ : List ℕ) (r : Told) (out out₁ : List ℕ) : Type 0 where
  pub told : r ≡ No 0
  pub memory : m₁ ≡ m
  pub row : out₁ ≡ out

-- a turn for any memory and any row lent: it is taken, or the memory or the row is not as large as it has to be
pub record Turns (o : Out) (m m₁ : List ℕ) (r : Told) (out out₁ : List ℕ) : Type 0 where
  pub taken : length m ≡ 238304 → 65536 ≤ length out → Does o m m₁ r out out₁
  pub other_size : (length m ≢ 238304) → Refused m m₁ r out out₁
  pub short_row : length out < 65536 → Refused m m₁ r out out₁

-- going on when no cell differs
abbrev pub closing_out : Glass → View → Out
closing_out g v = pick (none_of (closing g v).bytes) (out g v wait) (out g (after_closing v (closing g v)) (write (closing g v).bytes))
