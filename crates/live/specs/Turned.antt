-- What the machine does when one thing comes.
use Rattle.std.specs.Prelude.{◌≡◌, ℕ, false, List, Some, None}
use Rattle.meaning.specs.Panes.{Event, at_first}
use Rattle.meaning.specs.Promise.{detaching}
use Rattle.engine.specs.State.{Out}
use Rattle.grid.specs.declared.size.Size.{Size}
use Rattle.layout.specs.Window.{one_pane}
use Rattle.render.specs.Pens.{fresh_pen}
use Rattle.machine.specs.States.{terminal_in, glass_of}
use Rattle.machine.specs.declared.state.Held.{Held}
use Rattle.machine.specs.declared.state.Machine.{Machine}
use Rattle.turns.specs.Turned.{turned_by}

-- with d known
abbrev pub turned : Machine → List ℕ → Event → Out
turned = turned_by detaching

-- the machine of a viewer with a fresh screen of this size, who looks at the pane p
pub record Looked (s : Size) (n : ℕ) (p : Held) (y : Machine) : Type 0 where
  pub size : y.size ≡ s
  pub pane : y.pane ≡ Some p
  pub pen : y.pen ≡ fresh_pen
  pub glass : (m : List ℕ) → glass_of y m ≡ one_pane s.wide s.high p.id (terminal_in p.terminal m) n false

-- the machine to which nothing has come yet
pub record AtFirst (y : Machine) : Type 0 where
  pub wide : y.size.wide ≡ 1
  pub high : y.size.high ≡ 1
  pub pane : y.pane ≡ None
  pub next : y.next ≡ 1
  pub pen : y.pen ≡ fresh_pen
  pub glass : (m : List ℕ) → glass_of y m ≡ at_first
