-- How the machine's state is kept in its memory, for one window with one pane:
--
--   0          0 if nothing has ever come, 1 afterwards
--   1, 2       the viewer's columns and rows
--   3, 4       does somebody look? has the prefix come?
--   5          the number that the next pane gets
--   6, 7       is there a pane, and its number
--   8 to 12    the pen of the viewer's screen: row, column, is a wrap pending, rendition as the number of a cell with sign 0, is the cursor visible?
--   256        the header of the pane's terminal, 64 numbers
--   2304       the cells of the viewer's screen, row after row, at most 12,000
--   38304      the cells of the pane, as many as its size asks for
--
-- Yes is 1, and any other number is read as no. What is not listed is not used.
use Rattle.std.specs.Prelude.{ℕ, ◌*◌, ◌^◌, Bool, true, false, not, ◌&&◌, List, [], ◌∷◌, length, take, drop, ◌==◌, nat_le, nat_lt, slice_index}
use Rattle.meaning.specs.Words.{pick, or}
use Rattle.meaning.specs.Screen.{Term}
use Rattle.meaning.specs.Panes.{Glass, Window, Pane, pane, at_first}
use Rattle.grid.specs.Cells.{packed, style_of, rows_of, cells_of}
use Rattle.grid.specs.declared.cell.Rendition.{Rendition}
use Rattle.header.specs.Header.{yes, bit, header_fits, term_from, header_of}
use Rattle.render.specs.declared.pen.Pen.{Pen}
use Rattle.render.specs.Pens.{rendition_of}
use Rattle.engine.specs.Areas.{part, put}
use Rattle.engine.specs.State.{View, State, state, fresh_view}

-- how many numbers the memory has: 256 for the head, 64 for each of 32 panes, 12,000 for the viewer's screen and as many twice more for work, and
-- 200,000 for the panes' cells. No mark: the checker never counts so far by itself
unfoldable pub memory_size : ℕ
memory_size = 238304

-- where the areas begin
unfoldable pub header_at : ℕ
header_at = 256

unfoldable pub screen_at : ℕ
screen_at = 2304

unfoldable pub cells_at : ℕ
cells_at = 38304

-- FROM NUMBERS
abbrev pub head_fits : List ℕ → Bool
head_fits h =
    (nat_lt 0 (slice_index h 1) && (nat_le (slice_index h 1) 200 && (nat_lt 0 (slice_index h 2) && nat_le (slice_index h 2) 60))) && (nat_lt (slice_index h 5) (2 ^ 47) && nat_lt (slice_index h 7) (2 ^ 47))

-- does the memory hold a state?
unfoldable pub memory_fits : List ℕ → Bool
memory_fits m =
    (length m == memory_size)
    && or (slice_index (part m 0 16) 0 == 0)
    (slice_index (part m 0 16) 0 == 1 && (head_fits (part m 0 16) && or (not (yes (slice_index (part m 0 16) 6))) (header_fits (part m header_at 64))))

abbrev pub windows_from : Bool → ℕ → List Window
windows_from has i = pick has (record { layout = pane i; focus = i } ∷ []) []

abbrev pub panes_from : Bool → ℕ → Term → List Pane
panes_from has i t = pick has (record { id = i; term = t } ∷ []) []

-- a terminal from its header and the numbers from its first cell on
abbrev pub terminal_from : List ℕ → List ℕ → Term
terminal_from hd xs = term_from hd (rows_of (slice_index hd 0) (slice_index hd 1) (take (slice_index hd 1 * slice_index hd 0) xs)) []

abbrev pub glass_from : List ℕ → Term → Glass
glass_from h t = record {
  wide = slice_index h 1;
  high = slice_index h 2;
  attached = yes (slice_index h 3);
  windows = windows_from (yes (slice_index h 6)) (slice_index h 7);
  at = 0;
  panes = panes_from (yes (slice_index h 6)) (slice_index h 7) t;
  next = slice_index h 5;
  prefix = yes (slice_index h 4);
}

abbrev pub pen_from : List ℕ → Pen
pen_from h = record { row = slice_index h 8; col = slice_index h 9; pending = yes (slice_index h 10); rendition = rendition_of (slice_index h 11); visible = yes (slice_index h 12) }

abbrev pub view_from : List ℕ → List ℕ → View
view_from h xs = record { wide = slice_index h 1; high = slice_index h 2; cells = take (slice_index h 2 * slice_index h 1) xs; pen = pen_from h }

unfoldable pub decode : List ℕ → State
decode m =
    pick (slice_index (part m 0 16) 0 == 0) (state at_first (fresh_view 1 1))
    (state (glass_from (part m 0 16) (terminal_from (part m header_at 64) (drop cells_at m))) (view_from (part m 0 16) (drop screen_at m)))

-- AS NUMBERS
abbrev pub rendition_number : Rendition → ℕ
rendition_number r = packed (record { sign = 0; style = style_of r })

abbrev pub has_pane : List Pane → Bool
has_pane [] = false
has_pane (p ∷ ps) = true

abbrev pub pane_number : List Pane → ℕ
pane_number [] = 0
pane_number (p ∷ ps) = p.id

abbrev pub head_of : Glass → View → List ℕ
head_of g v =
    1 ∷ g.wide ∷ g.high ∷ bit g.attached ∷ bit g.prefix ∷ g.next ∷ bit (has_pane g.panes) ∷ pane_number g.panes
    ∷ v.pen.row ∷ v.pen.col ∷ bit v.pen.pending ∷ rendition_number v.pen.rendition ∷ bit v.pen.visible ∷ 0 ∷ 0 ∷ 0 ∷ []

abbrev pub with_cells : List ℕ → List Pane → List ℕ
with_cells m [] = m
with_cells m (p ∷ ps) = put m cells_at (cells_of p.term.rows)

abbrev pub with_header : List ℕ → List Pane → List ℕ
with_header m [] = m
with_header m (p ∷ ps) = put m header_at (header_of p.term)

-- the memory with a state put into it, area by area from above
unfoldable pub encode : List ℕ → State → List ℕ
encode m s = put (with_header (put (with_cells m s.glass.panes) screen_at s.view.cells) s.glass.panes) 0 (head_of s.glass s.view)
