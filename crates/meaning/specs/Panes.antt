-- Windows with panes, and what keys and programs do to them: the plain glass, which the machine is measured by.
use Rattle.std.specs.Prelude.{ℕ, zero, suc, ◌+◌, ◌-◌, ◌/◌, ◌%◌, Bool, true, false, not, ◌&&◌, List, [], ◌∷◌, ◌++◌, length, ◌==◌, nat_eq, nat_le, nat_lt, slice_index}
use Rattle.meaning.specs.Words.{pick, or, each, those, flat, none_of, smaller, larger, put_at}
use Rattle.meaning.specs.Screen.{Term, fresh, fitted, with_answer}
use Rattle.meaning.specs.Bytes.{written}

-- a window is one pane, or two layouts side by side or one above the other, with a line between
pub data Layout : Type 0 where
  pane : ℕ → Layout
  beside : Layout → Layout → Layout
  above : Layout → Layout → Layout

-- a part of the screen: its upper left corner, columns and rows
pub record Rect : Type 0 where
  pub x : ℕ
  pub y : ℕ
  pub wide : ℕ
  pub high : ℕ

-- a pane's number and the part of the screen it has
pub record Place : Type 0 where
  pub id : ℕ
  pub rect : Rect

abbrev pub rect : ℕ → ℕ → ℕ → ℕ → Rect
rect x y w h = record { x = x; y = y; wide = w; high = h }

-- what is left beside the line goes by halves, the odd one to the second
abbrev pub half : ℕ → ℕ
half n = (n - 1) / 2

abbrev pub left_of : Rect → Rect
left_of r = rect r.x r.y (half r.wide) r.high

abbrev pub right_of : Rect → Rect
right_of r = rect (r.x + half r.wide + 1) r.y (r.wide - 1 - half r.wide) r.high

abbrev pub upper_of : Rect → Rect
upper_of r = rect r.x r.y r.wide (half r.high)

abbrev pub lower_of : Rect → Rect
lower_of r = rect r.x (r.y + half r.high + 1) r.wide (r.high - 1 - half r.high)

-- the places of a layout's panes, in order
unfoldable pub places : Layout → Rect → List Place
places (pane i) r = record { id = i; rect = r } ∷ []
places (beside a b) r = places a (left_of r) ++ places b (right_of r)
places (above a b) r = places a (upper_of r) ++ places b (lower_of r)

-- a pane's terminal has at least one row and column, even where there is no room to show it
abbrev pub pane_wide : Rect → ℕ
pane_wide r = larger 1 r.wide

abbrev pub pane_high : Rect → ℕ
pane_high r = larger 1 r.high

-- the numbers of a layout's panes, in order
unfoldable pub ids : Layout → List ℕ
ids (pane i) = i ∷ []
ids (beside a b) = ids a ++ ids b
ids (above a b) = ids a ++ ids b

-- another layout in place of pane i
unfoldable pub in_place : Layout → ℕ → Layout → Layout
in_place (pane j) i l = pick (i == j) l (pane j)
in_place (beside a b) i l = beside (in_place a i l) (in_place b i l)
in_place (above a b) i l = above (in_place a i l) (in_place b i l)

abbrev pub side_by : (Layout → Layout → Layout) → List Layout → List Layout → List Layout
side_by f [] bs = bs
side_by f (a ∷ as₁) [] = a ∷ []
side_by f (a ∷ as₁) (b ∷ bs) = f a b ∷ []

-- a layout without pane i, if something is left of it
unfoldable pub without : Layout → ℕ → List Layout
without (pane j) i = pick (i == j) [] (pane j ∷ [])
without (beside a b) i = side_by beside (without a i) (without b i)
without (above a b) i = side_by above (without a i) (without b i)

pub record Window : Type 0 where
  pub layout : Layout
  pub focus : ℕ

pub record Pane : Type 0 where
  pub id : ℕ
  pub term : Term

-- the viewer's size, whether somebody looks (is attached), the windows and which one is looked at, the panes in the order in which they came, the number
-- that the next pane gets, and whether the prefix key has come
pub record Glass : Type 0 where
  pub wide : ℕ
  pub high : ℕ
  pub attached : Bool
  pub windows : List Window
  pub at : ℕ
  pub panes : List Pane
  pub next : ℕ
  pub prefix : Bool

-- what is said to programs and the world: bytes for a pane's program, a pane's program is to start with so many columns and rows, it has another
-- size, it is to stop; nobody looks any more; the last window has gone
pub data Says : Type 0 where
  send : ℕ → List ℕ → Says
  start : ℕ → ℕ → ℕ → Says
  sized : ℕ → ℕ → ℕ → Says
  stop : ℕ → Says
  leave : Says
  over : Says

pub record Turn : Type 0 where
  pub next : Glass
  pub says : List Says

-- what comes in: a key; bytes from a pane's program; that program's end; somebody attaches with so many columns and rows, or has another size
pub data Event : Type 0 where
  key : ℕ → Event
  from : ℕ → List ℕ → Event
  gone : ℕ → Event
  attach : ℕ → ℕ → Event

abbrev pub turn_of : Glass → List Says → Turn
turn_of g ss = record { next = g; says = ss }

abbrev pub no_window : Window
no_window = record { layout = pane 0; focus = 0 }

unfoldable pub window_at : List Window → ℕ → Window
window_at [] k = no_window
window_at (v ∷ vs) zero = v
window_at (v ∷ vs) (suc k) = window_at vs k

-- the window that is looked at
abbrev pub current : Glass → Window
current g = window_at g.windows g.at

-- all but the last row is the window's
abbrev pub room : Glass → Rect
room g = rect 0 0 g.wide (g.high - 1)

abbrev pub with_panes : Glass → List Pane → Glass
with_panes g ps = record { wide = g.wide; high = g.high; attached = g.attached; windows = g.windows; at = g.at; panes = ps; next = g.next; prefix = g.prefix }

abbrev pub with_prefix : Glass → Bool → Glass
with_prefix g p = record { wide = g.wide; high = g.high; attached = g.attached; windows = g.windows; at = g.at; panes = g.panes; next = g.next; prefix = p }

abbrev pub with_windows : Glass → List Window → ℕ → Glass
with_windows g vs k = record { wide = g.wide; high = g.high; attached = g.attached; windows = vs; at = k; panes = g.panes; next = g.next; prefix = g.prefix }

abbrev pub pane_of : Glass → ℕ → List Pane
pane_of g i = those (λ p. nat_eq p.id i) g.panes

abbrev pub set_term : ℕ → Term → Pane → Pane
set_term i t p = pick (p.id == i) (record { id = i; term = t }) p

-- panes brought to the size of their places, in the order of windows and places; each that changes is told its size
abbrev pub as_large : Rect → Term → Bool
as_large r t = t.wide == pane_wide r && t.high == pane_high r

abbrev pub pane_fitted : List Pane → Place → List Pane
pane_fitted ps q =
    each (λ p. pick (p.id == q.id && not (as_large q.rect p.term)) (record { id = p.id; term = fitted p.term (pane_wide q.rect) (pane_high q.rect) }) p) ps

abbrev pub size_told : List Pane → Place → List Says
size_told ps q =
    each (λ p. sized q.id (pane_wide q.rect) (pane_high q.rect)) (those (λ p. (p.id == q.id) && not (as_large q.rect p.term)) ps)

unfoldable pub fit_places : List Place → Glass → List Says → Turn
fit_places [] g ss = turn_of g ss
fit_places (q ∷ qs) g ss = fit_places qs (with_panes g (pane_fitted g.panes q)) (ss ++ size_told g.panes q)

abbrev pub all_places : Glass → List Place
all_places g = flat (λ v. places v.layout (room g)) g.windows

unfoldable pub settled : Glass → List Says → Turn
settled g ss = fit_places (all_places g) g ss

-- a new pane, as large as its place
abbrev pub place_in : List Place → ℕ → List Place
place_in ps i = those (λ p. nat_eq p.id i) ps

abbrev pub begin_pane : Glass → ℕ → List Place → Turn
begin_pane g i [] = turn_of g []
begin_pane g i (q ∷ qs) =
    turn_of (with_panes g (g.panes ++ record { id = i; term = fresh (pane_wide q.rect) (pane_high q.rect) } ∷ []))
    (start i (pane_wide q.rect) (pane_high q.rect) ∷ [])

abbrev pub numbered : Glass → Glass
numbered g = record { wide = g.wide; high = g.high; attached = g.attached; windows = g.windows; at = g.at; panes = g.panes; next = suc g.next; prefix = g.prefix }

abbrev pub then_settled : Turn → Turn
then_settled t = settled t.next t.says

abbrev pub begun : Glass → ℕ → Turn
begun g i = then_settled (begin_pane (numbered g) i (place_in (all_places g) i))

-- a new window with one pane; nothing at eight windows or 32 panes
abbrev pub new_window : Glass → Turn
new_window g =
    pick (or (nat_le 8 (length g.windows)) (nat_le 32 (length g.panes))) (turn_of g [])
    (begun (with_windows g (g.windows ++ record { layout = pane g.next; focus = g.next } ∷ []) (length g.windows)) g.next)

abbrev pub place_of_focus : Glass → List Place
place_of_focus g = place_in (places (current g).layout (room g)) (current g).focus

-- a split takes three columns, or rows: one for each part and one for the line
abbrev pub large_enough : Bool → List Place → Bool
large_enough side [] = false
large_enough side (q ∷ qs) = nat_le 3 (pick side q.rect.wide q.rect.high)

abbrev pub split : Glass → Bool → Turn
split g side =
    pick (large_enough side (place_of_focus g) && nat_lt (length g.panes) 32)
    (let two : Layout = pick side (beside (pane (current g).focus) (pane g.next)) (above (pane (current g).focus) (pane g.next)) in
    begun (with_windows g (put_at g.windows g.at (record { layout = in_place (current g).layout (current g).focus two; focus = g.next })) g.at) g.next)
    (turn_of g [])

-- the number behind i in a list, the first behind the last
unfoldable pub after : ℕ → List ℕ → List ℕ → ℕ
after i [] whole = slice_index whole 0
after i (j ∷ js) whole = pick (i == j) (pick (none_of js) (slice_index whole 0) (slice_index js 0)) (after i js whole)

abbrev pub other_pane : Glass → Glass
other_pane g =
    with_windows g (put_at g.windows g.at (record { layout = (current g).layout; focus = after (current g).focus (ids (current g).layout) (ids (current g).layout) })) g.at

-- the key after the prefix: 1 the prefix itself, c a window, n and p the next window and the one before, | and - a split, o the next pane, x its end,
-- d detach; of these all but the first only where known
unfoldable pub command : (ℕ → Bool) → Glass → ℕ → Turn
command known g c =
    pick (c == 1) (turn_of g (send (current g).focus (1 ∷ []) ∷ []))
    (pick (known c)
    (pick (c == 99) (new_window g)
    (pick (c == 110) (turn_of (with_windows g g.windows (suc g.at % (larger 1 (length g.windows)))) [])
    (pick (c == 112) (turn_of (with_windows g g.windows ((g.at + length g.windows - 1) % (larger 1 (length g.windows)))) [])
    (pick (c == 124) (split g true) (pick (c == 45) (split g false)
    (pick (c == 111) (turn_of (other_pane g) [])
    (pick (c == 120) (turn_of g (stop (current g).focus ∷ []))
    (pick (c == 100) (turn_of (record { wide = g.wide; high = g.high; attached = false; windows = g.windows; at = g.at; panes = g.panes; next = g.next; prefix = false }) (leave ∷ []))
    (turn_of g [])))))))))
    (turn_of g []))

-- byte 1 is the prefix; other keys go to the pane with the focus; none does anything while nobody looks
abbrev pub on_key : (ℕ → Bool) → Glass → ℕ → Turn
on_key known g c =
    pick g.attached
    (pick g.prefix (command known (with_prefix g false) c) (pick (c == 1) (turn_of (with_prefix g true) []) (turn_of g (send (current g).focus (c ∷ []) ∷ []))))
    (turn_of g [])

abbrev pub told : ℕ → List ℕ → List Says
told i bs = pick (none_of bs) [] (send i bs ∷ [])

-- bytes from a program go to its pane's terminal, and what that reports goes back to the program
unfoldable pub on_bytes : Glass → ℕ → List ℕ → List Pane → Turn
on_bytes g i bs [] = turn_of g []
on_bytes g i bs (p ∷ ps) =
    turn_of (with_panes g (each (set_term i (with_answer (written p.term bs) [])) g.panes)) (told i (written p.term bs).answer)

-- a pane goes, and its window with its last pane; the first pane left has the focus if the one that went had it
abbrev pub new_focus : ℕ → ℕ → Layout → ℕ
new_focus f i l = pick (f == i) (slice_index (ids l) 0) f

abbrev pub less_pane : ℕ → Window → List Layout → List Window
less_pane i v [] = []
less_pane i v (l ∷ ls) = record { layout = l; focus = new_focus v.focus i l } ∷ []

abbrev pub windows_without : ℕ → List Window → List Window
windows_without i vs = flat (λ v. less_pane i v (without v.layout i)) vs

-- the window that is looked at stays the one, if it is there still
unfoldable pub gone_before : ℕ → List Window → ℕ → ℕ
gone_before i [] k = 0
gone_before i (v ∷ vs) zero = 0
gone_before i (v ∷ vs) (suc k) = pick (none_of (without v.layout i)) 1 0 + gone_before i vs k

abbrev pub new_at : Glass → ℕ → List Window → ℕ
new_at g i vs = smaller (g.at - gone_before i g.windows g.at) (length vs - 1)

abbrev pub on_gone : Glass → ℕ → Turn
on_gone g i =
    pick (none_of (pane_of g i)) (turn_of g [])
    (let vs : List Window = windows_without i g.windows in
    let u : Turn = settled (with_panes (with_windows g vs (new_at g i vs)) (those (λ p. not (p.id == i)) g.panes)) [] in
    pick (none_of vs) (turn_of u.next (u.says ++ over ∷ [])) u)

-- whoever attaches has no prefix pending; the first gets a window, later ones bring their size
abbrev pub on_attach : Glass → ℕ → ℕ → Turn
on_attach g w h =
    let u : Glass = record { wide = w; high = h; attached = true; windows = g.windows; at = g.at; panes = g.panes; next = g.next; prefix = false } in
    pick (none_of g.windows) (new_window u) (settled u [])

-- one thing that comes: the glass afterwards, and what is said
unfoldable pub turn : (ℕ → Bool) → Glass → Event → Turn
turn known g (key c) = on_key known g c
turn known g (from i bs) = on_bytes g i bs (pane_of g i)
turn known g (gone i) = on_gone g i
turn known g (attach w h) = on_attach g w h

-- nobody has looked yet, and there is nothing
abbrev pub at_first : Glass
at_first = record { wide = 1; high = 1; attached = false; windows = []; at = 0; panes = []; next = 1; prefix = false }
