-- What the code's machine stands for, with the cells in its memory, and what loading and storing it leave.
use Rattle.std.specs.Prelude.{◌≡◌, ℕ, ◌*◌, ◌^◌, ◌<◌, Bool, true, false, not, ◌&&◌, List, [], length, drop, Some, None, Option, ◌==◌, slice_index}
use Rattle.meaning.specs.Words.{or}
use Rattle.meaning.specs.Screen.{Term}
use Rattle.meaning.specs.Panes.{Glass, Window, Pane, at_first}
use Rattle.terminal.specs.Terms.{term_on}
use Rattle.terminal.specs.declared.state.Terminal.{Terminal}
use Rattle.header.specs.Header.{yes, header_fits}
use Rattle.header.specs.Outcomes.{Loaded as HeaderLoads}
use Rattle.engine.specs.Areas.{part}
use Rattle.engine.specs.State.{View, State, state, fresh_view}
use Rattle.engine.specs.Memory.{memory_size, header_at, screen_at, cells_at, head_fits, memory_fits, windows_from, panes_from, terminal_from, glass_from, view_from, decode, encode}
use Rattle.machine.specs.declared.state.Held.{Held}
use Rattle.machine.specs.declared.state.Machine.{Machine}
use Rattle.machine.specs.declared.state.Loaded.{Loaded}
use Rattle.machine.specs.declared.state.Loaded.TheVariants.{First, Is}

-- the pane's terminal with its cells
abbrev pub terminal_in : Terminal → List ℕ → Term
terminal_in t m = term_on t (part m cells_at (t.size.high * t.size.wide)) []

abbrev pub windows_of : Option Held → List Window
windows_of None = []
windows_of (Some p) = windows_from true p.id

abbrev pub panes_of : Option Held → List ℕ → List Pane
panes_of None m = []
panes_of (Some p) m = panes_from true p.id (terminal_in p.terminal m)

abbrev pub glass_of : Machine → List ℕ → Glass
glass_of x m = record {
  wide = x.size.wide;
  high = x.size.high;
  attached = x.attached;
  windows = windows_of x.pane;
  at = 0;
  panes = panes_of x.pane m;
  next = x.next;
  prefix = x.prefix;
}

-- the glass with n as the number that the next pane gets
abbrev pub with_next : Glass → ℕ → Glass
with_next g n = record { wide = g.wide; high = g.high; attached = g.attached; windows = g.windows; at = g.at; panes = g.panes; next = n; prefix = g.prefix }

abbrev pub view_of : Machine → List ℕ → View
view_of x m = record { wide = x.size.wide; high = x.size.high; cells = part m screen_at (x.size.high * x.size.wide); pen = x.pen }

unfoldable pub state_of : Machine → List ℕ → State
state_of x m = state (glass_of x m) (view_of x m)

-- do the head and the pane's header of a memory in use fit?
abbrev pub used_fits : List ℕ → Bool
used_fits m = head_fits (part m 0 16) && or (not (yes (slice_index (part m 0 16) 6))) (header_fits (part m header_at 64))

-- what such a memory holds
abbrev pub used : List ℕ → State
used m = state (glass_from (part m 0 16) (terminal_from (part m header_at 64) (drop cells_at m))) (view_from (part m 0 16) (drop screen_at m))

pub record Holds (m : List ℕ) (x : Machine) : Type 0 where
  pub fits : used_fits m ≡ true
  pub same : used m ≡ state_of x m
  pub few : x.next < 2 ^ 47

-- a pane from the numbers for whether there is one, its own, and its header
abbrev pub PaneIs : ℕ → ℕ → List ℕ → Option Held → Type 0
PaneIs has i hd None = yes has ≡ false
PaneIs has i hd (Some p) = (yes has ≡ true) × (p.id ≡ i) × HeaderLoads hd p.terminal

-- what was found in a memory
abbrev pub Loads : List ℕ → Option Loaded → Type 0
Loads m None = memory_fits m ≡ false
Loads m (Some First) = (memory_fits m ≡ true) × (decode m ≡ state at_first (fresh_view 1 1))
Loads m (Some (Is x)) = (memory_fits m ≡ true) × (decode m ≡ state_of x m) × (x.next < 2 ^ 47)

-- a memory of the right size holds the state of x with the cells as they were; any other stays
pub record Stored (x : Machine) (old : List ℕ) (r : Bool) (new : List ℕ) : Type 0 where
  pub told : r ≡ (length old == memory_size)
  pub done : r ≡ true → new ≡ encode old (state_of x old)
  pub kept : r ≡ false → new ≡ old

-- likewise, but with n as the number that the next pane gets
pub record StoredWithNext (x : Machine) (n : ℕ) (old : List ℕ) (r : Bool) (new : List ℕ) : Type 0 where
  pub told : r ≡ (length old == memory_size)
  pub done : r ≡ true → new ≡ encode old (state (with_next (glass_of x old) n) (view_of x old))
  pub kept : r ≡ false → new ≡ old
