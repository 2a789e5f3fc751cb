-- What the machine does when one thing comes.
use Rattle.std.specs.Prelude.{ℕ, Bool, List}
use Rattle.meaning.specs.Panes.{Event, Turn, turn}
use Rattle.meaning.specs.Promise.{core}
use Rattle.engine.specs.State.{View, Out, said_or_going, view_at}
use Rattle.machine.specs.States.{glass_of, view_of}
use Rattle.machine.specs.declared.state.Machine.{Machine}

-- what is said after a turn comes first, else it goes on
abbrev pub then_goes : View → Turn → Out
then_goes v t = said_or_going t.next v t.says

abbrev pub turned : Machine → List ℕ → Event → Out
turned x m ev = then_goes (view_at ev (view_of x m)) (turn core (glass_of x m) ev)

-- likewise where these keys after the prefix are known
abbrev pub turned_by : (ℕ → Bool) → Machine → List ℕ → Event → Out
turned_by known x m ev = then_goes (view_at ev (view_of x m)) (turn known (glass_of x m) ev)
