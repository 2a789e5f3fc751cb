-- What always holds of windows and panes, and that every turn of the plain glass keeps it.
use Rattle.std.specs.Prelude.{◌≡◌, ℕ, zero, ◌<◌, ◌≤◌, Bool, List, [], ◌∷◌, length}
use Rattle.meaning.specs.Panes.{Glass, Window, Event, ids, turn, at_first}
use Rattle.windows.specs.Counting.{times, pane_ids, glass_ids}

-- no pane stands twice, in one window or in two
abbrev pub Distinct : Glass → Type 0
Distinct g = (i : ℕ) → times i (glass_ids g.windows) ≤ 1

-- the panes are those that the windows' layouts name
abbrev pub Housed : Glass → Type 0
Housed g = (i : ℕ) → times i (pane_ids g.panes) ≡ times i (glass_ids g.windows)

-- the number for the next pane, and all above it, are free
abbrev pub FreshNext : Glass → Type 0
FreshNext g = (i : ℕ) → g.next ≤ i → times i (glass_ids g.windows) ≡ 0

-- each window's focus is on a pane of that window
abbrev pub Focused : List Window → Type 0
Focused [] = zero ≡ zero
Focused (v ∷ vs) = (0 < times v.focus (ids v.layout)) × Focused vs

-- at most eight windows and 32 panes, and as many panes as places for them
pub record WithinLimits (g : Glass) : Type 0 where
  pub windows : length g.windows ≤ 8
  pub panes : length g.panes ≤ 32
  pub places : length g.panes ≡ length (glass_ids g.windows)

-- the window that is looked at is there, if any is
abbrev pub Current : Glass → Type 0
Current g = 0 < length g.windows → g.at < length g.windows

pub record Sane (g : Glass) : Type 0 where
  pub distinct : Distinct g
  pub housed : Housed g
  pub fresh_next : FreshNext g
  pub focused : Focused g.windows
  pub within : WithinLimits g
  pub current : Current g

-- it holds at first, and every turn keeps it, whatever keys are known
unfoldable pub KeepsSane : Type 0
KeepsSane = Sane at_first × ((known : ℕ → Bool) (g : Glass) (ev : Event) → Sane g → Sane (turn known g ev).next)
