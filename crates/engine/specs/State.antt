-- The machine's step on its state: the plain glass, and what the viewer's screen shows and is set to. Nothing is queued: every act follows from the state.
use Rattle.std.specs.Prelude.{ℕ, ◌*◌, Bool, true, not, ◌&&◌, List, [], ◌∷◌}
use Rattle.meaning.specs.Words.{pick, none_of, so_many}
use Rattle.meaning.specs.Screen.{Term}
use Rattle.meaning.specs.Panes.{Glass, Event, key, from, gone, attach, Says, turn}
use Rattle.meaning.specs.Picture.{picture, spot}
use Rattle.meaning.specs.Promise.{Engine, ToldIt, comes, next, Act, write, says, wait, Step, proper_event}
use Rattle.grid.specs.Cells.{blank_number, cells_of}
use Rattle.render.specs.declared.pen.Pen.{Pen}
use Rattle.render.specs.Pens.{fresh_pen}
use Rattle.render.specs.Draw.{Go, drawn}
use Rattle.render.specs.Finish.{Finish, finished}
use Rattle.render_law.specs.View.{viewer}

-- the viewer's screen as it is known: its size, its cells row after row, and its pen
pub record View : Type 0 where
  pub wide : ℕ
  pub high : ℕ
  pub cells : List ℕ
  pub pen : Pen

pub record State : Type 0 where
  pub glass : Glass
  pub view : View

pub record Out : Type 0 where
  pub state : State
  pub act : Act

abbrev pub screen_of : View → Term
screen_of v = viewer v.wide v.high v.cells v.pen

abbrev pub fresh_view : ℕ → ℕ → View
fresh_view w h = record { wide = w; high = h; cells = so_many (h * w) blank_number; pen = fresh_pen }

abbrev pub state : Glass → View → State
state g v = record { glass = g; view = v }

abbrev pub out : Glass → View → Act → Out
out g v a = record { state = state g v; act = a }

-- how many bytes one go has room for
abbrev pub go_room : ℕ
go_room = 4096

-- one go of drawing, and the closing go
abbrev pub drawing : Glass → View → Go
drawing g v = drawn v.wide v.high (cells_of (picture g)) go_room v.cells v.pen

abbrev pub closing : Glass → View → Finish
closing g v = finished v.wide v.high (spot g).row (spot g).col (spot g).shown go_room v.pen

abbrev pub after_drawing : View → Go → View
after_drawing v d = record { wide = v.wide; high = v.high; cells = d.screen; pen = d.pen }

abbrev pub after_closing : View → Finish → View
after_closing v f = record { wide = v.wide; high = v.high; cells = v.cells; pen = f.pen }

-- somebody looks at a window
abbrev pub looks : Glass → Bool
looks g = g.attached && not (none_of g.windows)

-- going on: cells that differ are drawn, as many as one go takes; then the cursor is put right; then there is nothing to do
unfoldable pub going : Glass → View → Out
going g v =
    pick (looks g)
    (pick (none_of (drawing g v).bytes)
    (pick (none_of (closing g v).bytes) (out g v wait) (out g (after_closing v (closing g v)) (write (closing g v).bytes)))
    (out g (after_drawing v (drawing g v)) (write (drawing g v).bytes)))
    (out g v wait)

-- whoever attaches has a fresh screen
unfoldable pub view_at : Event → View → View
view_at (key c) v = v
view_at (from i bs) v = v
view_at (gone i) v = v
view_at (attach w h) v = fresh_view w h

-- what is said comes first
unfoldable pub said_or_going : Glass → View → List Says → Out
said_or_going g v [] = going g v
said_or_going g v (s ∷ ss) = out g v (says s)

-- one step, for the keys after the prefix that are known; what is not proper changes nothing
unfoldable pub stepped : (ℕ → Bool) → State → ToldIt → Out
stepped known s next = going s.glass s.view
stepped known s (comes ev) =
    pick (proper_event ev) (said_or_going (turn known s.glass ev).next (view_at ev s.view) (turn known s.glass ev).says) (record { state = s; act = wait })

-- the machine over a way of keeping its state in memory: memory that holds no state is left as it is
abbrev pub kept : (List ℕ → State → List ℕ) → List ℕ → Out → Step
kept encode m o = record { memory = encode m o.state; act = o.act }

unfoldable pub machine_of : (ℕ → Bool) → List ℕ → (List ℕ → Bool) → (List ℕ → State) → (List ℕ → State → List ℕ) → Engine
machine_of known start fits decode encode =
    record { start = start; step = λ m told. pick (fits m) (kept encode m (stepped known (decode m) told)) (record { memory = m; act = wait }) }

-- what may be told: anything that is proper, and to go on
unfoldable pub proper_told : ToldIt → Bool
proper_told next = true
proper_told (comes ev) = proper_event ev

-- one step by something that is proper, for the keys after the prefix that are known
unfoldable pub taking : (ℕ → Bool) → State → ToldIt → Out
taking known s next = going s.glass s.view
taking known s (comes ev) = said_or_going (turn known s.glass ev).next (view_at ev s.view) (turn known s.glass ev).says

-- the machine over a way of keeping its state in memory: told what is not proper, or over memory that holds no state, it waits and leaves the memory as it is
unfoldable pub machine_by : (State → ToldIt → Out) → List ℕ → (List ℕ → Bool) → (List ℕ → State) → (List ℕ → State → List ℕ) → Engine
machine_by steps start fits decode encode =
    record { start = start; step = λ m told. pick (fits m && proper_told told) (kept encode m (steps (decode m) told)) (record { memory = m; act = wait }) }
