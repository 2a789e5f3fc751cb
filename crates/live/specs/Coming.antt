-- What comes, as an event of the promise, and what one step by it tells.
use Rattle.std.specs.Prelude.{◌≡◌, ℕ, Bool, true, false, ◌&&◌, List, length, ◌==◌, nat_le}
use Rattle.meaning.specs.Panes.{Event, key, from, gone, attach}
use Rattle.meaning.specs.Promise.{Engine, ToldIt}
use Rattle.meaning.specs.Entry.{ActTold}
use Rattle.meaning.specs.declared.answer.Told.{Told}
use Rattle.meaning.specs.declared.answer.Told.TheVariants.{No}
use Rattle.live.specs.declared.coming.Coming.{Coming}
use Rattle.live.specs.declared.coming.Coming.TheVariants.{Key, From, Gone, Look}

abbrev pub event_of : Coming → List ℕ → Event
event_of (Key c) bs = key c
event_of (From i) bs = from i bs
event_of (Gone i) bs = gone i
event_of (Look w h) bs = attach w h

-- a memory of the machine's own length, and a lent row of 65,536 bytes or more
abbrev pub sizes_fit : Engine → List ℕ → List ℕ → Bool
sizes_fit e memory out = length memory == length e.start && nat_le 65536 (length out)

-- one step of the machine e that is told t, if the sizes are right; if not number 0 is told and nothing is changed
unfoldable pub ToldSays : Engine → ToldIt → (memory out : List ℕ) → Bool → Told → (memory₁ out₁ : List ℕ) → Type 0
ToldSays e t memory out true r memory₁ out₁ = (memory₁ ≡ (e.step memory t).memory) × ActTold (e.step memory t).act r out out₁
ToldSays e t memory out false r memory₁ out₁ = (r ≡ No 0) × (memory₁ ≡ memory) × (out₁ ≡ out)
