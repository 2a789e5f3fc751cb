-- How the machine's state is kept in its memory, for up to 8 windows and 32 panes:
--
--   0           0 if nothing has ever come, 2 if the memory holds a state by this map
--   1, 2        the viewer's columns and rows
--   3, 4        does somebody look? has the prefix come?
--   5           the window that is looked at, below 8
--   6           the number that the next pane gets
--   7, 8        how many windows and panes there are
--   9 to 13     the pen of the viewer's screen: row, column, is a wrap pending, rendition as the number of a cell with sign 0, is the cursor visible?
--   14, 15      0
--   16 to 23    for each window the number of the pane with the focus
--   24 to 87    the codes of the windows' layouts, one behind the other (specs/Codes.antt)
--   88 to 127   0
--   128 to 159  the panes' numbers, in the order in which the panes came
--   256         the headers of the panes' terminals in that order, 64 numbers each
--   2304        the cells of the viewer's screen, row after row, at most 12,000
--   38304       the cells of the panes in that order, for each as many as its size asks for, together at most 200,000
--
-- Where a pane's cells begin is the sum of the sizes before it and is not stored. Yes is 1, and any other number is read as no. Places from 16 to 159 that are not
-- in use hold 0. What is not listed is not used.
use Rattle.std.specs.Prelude.{ℕ, zero, suc, ◌+◌, ◌-◌, ◌*◌, ◌^◌, Bool, true, false, ◌&&◌, ltb, List, [], ◌∷◌, ◌++◌, length, take, drop, ◌==◌, nat_le, nat_lt, slice_index}
use Rattle.meaning.specs.Words.{pick, or, each, every, flat, so_many}
use Rattle.meaning.specs.Panes.{Layout, Glass, Window, Pane, at_first}
use Rattle.grid.specs.Cells.{cells_of}
use Rattle.header.specs.Header.{yes, bit, header_fits, header_of}
use Rattle.render.specs.declared.pen.Pen.{Pen}
use Rattle.render.specs.Pens.{rendition_of}
use Rattle.engine.specs.Areas.{part, put}
use Rattle.engine.specs.State.{View, State, state, fresh_view}
use Rattle.engine.specs.Memory.{memory_size, header_at, screen_at, cells_at, terminal_from, rendition_number}
use Rattle.stored.specs.Codes.{windows_code, Layouts, unread, are, parse_windows}

-- how many cells the panes have together at most. No mark: the checker never counts so far by itself
unfoldable pub cells_room : ℕ
cells_room = 200000

-- the first numbers of the memory
abbrev pub head_part : List ℕ → List ℕ
head_part m = part m 0 160

-- FROM NUMBERS
-- how many cells a terminal's header asks for
abbrev pub cells_asked : List ℕ → ℕ
cells_asked hd = slice_index hd 1 * slice_index hd 0

unfoldable pub headers_fit : ℕ → List ℕ → Bool
headers_fit zero hs = true
headers_fit (suc k) hs = header_fits (take 64 hs) && headers_fit k (drop 64 hs)

-- how many cells the first so many headers ask for together
unfoldable pub all_asked : ℕ → List ℕ → ℕ
all_asked zero hs = 0
all_asked (suc k) hs = cells_asked (take 64 hs) + all_asked k (drop 64 hs)

abbrev pub were_read : Layouts → Bool
were_read unread = false
were_read (are ls) = true

abbrev pub size_fits : List ℕ → Bool
size_fits h = nat_lt 0 (slice_index h 1) && (nat_le (slice_index h 1) 200 && (nat_lt 0 (slice_index h 2) && nat_le (slice_index h 2) 60))

abbrev pub counts_fit : List ℕ → Bool
counts_fit h = nat_lt (slice_index h 5) 8 && (nat_lt (slice_index h 6) (2 ^ 47) && (nat_le (slice_index h 7) 8 && nat_le (slice_index h 8) 32))

abbrev pub numbers_fit : List ℕ → Bool
numbers_fit h =
    every (λ x. ltb x (2 ^ 47)) (part h 16 8) && (every (λ x. ltb x (2 ^ 47 + 2)) (part h 24 64) && every (λ x. ltb x (2 ^ 47)) (part h 128 32))

abbrev pub layouts_in : List ℕ → Layouts
layouts_in h = parse_windows (slice_index h 7) (part h 24 64)

unfoldable pub head_fits : List ℕ → Bool
head_fits h = size_fits h && (counts_fit h && (numbers_fit h && were_read (layouts_in h)))

abbrev pub panes_fit : ℕ → List ℕ → Bool
panes_fit k hs = headers_fit k hs && nat_le (all_asked k hs) cells_room

-- does the memory hold a state?
unfoldable pub many_fits : List ℕ → Bool
many_fits m =
    (length m == memory_size)
    && or (slice_index (head_part m) 0 == 0)
    (slice_index (head_part m) 0 == 2 && (head_fits (head_part m) && panes_fit (slice_index (head_part m) 8) (drop header_at m)))

-- windows from their layouts and focuses
unfoldable pub windows_of : List Layout → List ℕ → List Window
windows_of [] fs = []
windows_of (l ∷ ls) fs = record { layout = l; focus = slice_index fs 0 } ∷ windows_of ls (drop 1 fs)

abbrev pub windows_from : Layouts → List ℕ → List Window
windows_from unread fs = []
windows_from (are ls) fs = windows_of ls fs

-- panes from their numbers, headers and cells
unfoldable pub panes_from : List ℕ → List ℕ → List ℕ → List Pane
panes_from [] hs cs = []
panes_from (i ∷ is) hs cs = record { id = i; term = terminal_from (take 64 hs) cs } ∷ panes_from is (drop 64 hs) (drop (cells_asked (take 64 hs)) cs)

abbrev pub many_glass : List ℕ → List ℕ → List ℕ → Glass
many_glass h hs cs = record {
  wide = slice_index h 1;
  high = slice_index h 2;
  attached = yes (slice_index h 3);
  windows = windows_from (layouts_in h) (part h 16 8);
  at = slice_index h 5;
  panes = panes_from (take (slice_index h 8) (part h 128 32)) hs cs;
  next = slice_index h 6;
  prefix = yes (slice_index h 4);
}

abbrev pub many_pen : List ℕ → Pen
many_pen h = record { row = slice_index h 9; col = slice_index h 10; pending = yes (slice_index h 11); rendition = rendition_of (slice_index h 12); visible = yes (slice_index h 13) }

abbrev pub many_view : List ℕ → List ℕ → View
many_view h vs = record { wide = slice_index h 1; high = slice_index h 2; cells = take (slice_index h 2 * slice_index h 1) vs; pen = many_pen h }

abbrev pub many_state : List ℕ → List ℕ → List ℕ → List ℕ → State
many_state h hs vs cs = state (many_glass h hs cs) (many_view h vs)

unfoldable pub many_decode : List ℕ → State
many_decode m =
    pick (slice_index (head_part m) 0 == 0) (state at_first (fresh_view 1 1)) (many_state (head_part m) (drop header_at m) (drop screen_at m) (drop cells_at m))

-- AS NUMBERS
-- n numbers, whatever the list
abbrev pub widened : ℕ → List ℕ → List ℕ
widened n xs = take n xs ++ so_many (n - length xs) 0

abbrev pub scalars : Glass → View → List ℕ
scalars g v =
    2 ∷ g.wide ∷ g.high ∷ bit g.attached ∷ bit g.prefix ∷ g.at ∷ g.next ∷ length g.windows ∷ length g.panes
    ∷ v.pen.row ∷ v.pen.col ∷ bit v.pen.pending ∷ rendition_number v.pen.rendition ∷ bit v.pen.visible ∷ 0 ∷ 0 ∷ []

abbrev pub focuses : List Window → List ℕ
focuses ws = each (λ v. v.focus) ws

abbrev pub numbers : List Pane → List ℕ
numbers ps = each (λ p. p.id) ps

abbrev pub headers : List Pane → List ℕ
headers ps = flat (λ p. header_of p.term) ps

abbrev pub all_cells : List Pane → List ℕ
all_cells ps = flat (λ p. cells_of p.term.rows) ps

unfoldable pub many_head : Glass → View → List ℕ
many_head g v =
    scalars g v ++ (widened 8 (focuses g.windows) ++ (widened 64 (windows_code g.windows) ++ (so_many 40 0 ++ widened 32 (numbers g.panes))))

-- the memory with a state put into it, area by area from above
unfoldable pub many_encode : List ℕ → State → List ℕ
many_encode m s =
    put (put (put (put m cells_at (all_cells s.glass.panes)) screen_at s.view.cells) header_at (headers s.glass.panes)) 0 (many_head s.glass s.view)
