-- How many bytes the promise grants for one thing, and the sums over a day.
use Rattle.std.specs.Prelude.{ℕ, ◌+◌, ◌*◌, ◌^◌, ◌≤◌, Bool, true, false, ◌⊎◌, List}
use Rattle.meaning.specs.Words.{pick, any, smaller}
use Rattle.meaning.specs.declared.answer.Told.{Told}
use Rattle.meaning.specs.declared.answer.Told.TheVariants.{Write, Send, Start, Size, Stop, Leave, Over, Wait, No}
use Rattle.player.specs.declared.tally.Tally.{Tally}

-- 64 and 32 for each of d cells that differ; none while nobody is attached, and 64 at the end of all
abbrev pub grant : Bool → Bool → ℕ → ℕ
grant attached over d = pick over 64 (pick attached (64 + 32 * smaller d 12000) 0)

abbrev pub is_leave : Told → Bool
is_leave (Write n) = false
is_leave (Send n) = false
is_leave (Start n) = false
is_leave (Size n) = false
is_leave (Stop n) = false
is_leave Leave = true
is_leave Over = false
is_leave Wait = false
is_leave (No n) = false

-- attached before, and no leave among the acts
abbrev pub still_attached : Bool → List Told → Bool
still_attached attached rs = pick (any is_leave rs) false attached

-- one more thing
abbrev pub tally_on : Tally → ℕ → ℕ → Tally
tally_on t sent grants = record { things = t.things + 1; sent = t.sent + sent; granted = t.granted + grants }

-- what 64 bits don't hold
abbrev pub TooLarge : Tally → ℕ → ℕ → Type 0
TooLarge t sent grants = (2 ^ 64 ≤ t.things + 1) ⊎ ((2 ^ 64 ≤ t.sent + sent) ⊎ (2 ^ 64 ≤ t.granted + grants))
