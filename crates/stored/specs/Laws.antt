-- What is promised of the map: which states it can keep, and that they are found again.
use Rattle.std.specs.Prelude.{◌≡◌, ℕ, ◌+◌, ◌*◌, ◌^◌, ◌<◌, ◌≤◌, true, ◌⊎◌, List, [], length, drop, nat_lt, slice_index, slice_index_or}
use Rattle.std.specs.List.{AllByRecursion}
use Rattle.meaning.specs.Words.{every, flat, so_many}
use Rattle.meaning.specs.Panes.{Glass, Window, Pane, ids, at_first}
use Rattle.grid.specs.Cells.{rows_of, cells_of}
use Rattle.header.specs.Header.{InRange}
use Rattle.render_law.specs.Law.{Fits}
use Rattle.engine.specs.Areas.{part}
use Rattle.engine.specs.State.{View, State, state, fresh_view}
use Rattle.engine.specs.Memory.{memory_size, header_at}
use Rattle.stored.specs.Many.{cells_room, head_part, headers_fit, all_asked, were_read, layouts_in, all_cells, many_fits, many_decode, many_encode}

-- the panes' numbers are small
pub record WindowKept (v : Window) : Type 0 where
  pub focus : v.focus < 2 ^ 47
  pub panes : AllByRecursion (λ i. i < 2 ^ 47) (ids v.layout)

-- the terminal can be kept, and has as many cells as its size asks for
pub record PaneKept (p : Pane) : Type 0 where
  pub number : p.id < 2 ^ 47
  pub range : InRange p.term
  pub silent : p.term.answer ≡ []
  pub long : length (cells_of p.term.rows) ≡ p.term.high * p.term.wide
  pub rows : rows_of p.term.wide p.term.high (cells_of p.term.rows) ≡ p.term.rows
  pub small : every (λ x. nat_lt x (2 ^ 64)) (cells_of p.term.rows) ≡ true

-- the view is as large as the glass, with all its cells
pub record ViewKept (g : Glass) (v : View) : Type 0 where
  pub is_wide : v.wide ≡ g.wide
  pub is_high : v.high ≡ g.high
  pub long : length v.cells ≡ g.high * g.wide
  pub small : every (λ x. nat_lt x (2 ^ 64)) v.cells ≡ true
  pub pen : Fits g.wide g.high v.pen

pub record GlassKept (g : Glass) : Type 0 where
  pub some_wide : 0 < g.wide
  pub wide : g.wide ≤ 200
  pub some_high : 0 < g.high
  pub high : g.high ≤ 60
  pub at : g.at < 8
  pub next : g.next < 2 ^ 47
  pub few_windows : length g.windows ≤ 8
  pub few_places : length (flat (λ v. ids v.layout) g.windows) ≤ 32
  pub few_panes : length g.panes ≤ 32
  pub windows : AllByRecursion WindowKept g.windows
  pub panes : AllByRecursion PaneKept g.panes
  pub few_cells : length (all_cells g.panes) ≤ cells_room

pub record Storable (s : State) : Type 0 where
  pub glass : GlassKept s.glass
  pub view : ViewKept s.glass s.view

-- What was put in is found again,
abbrev pub ManyBack : Type 0
ManyBack = (m : List ℕ) (s : State) → length m ≡ memory_size → Storable s → many_decode (many_encode m s) ≡ s

-- and the memory is seen to hold it.
abbrev pub ManyFit : Type 0
ManyFit = (m : List ℕ) (s : State) → length m ≡ memory_size → Storable s → many_fits (many_encode m s) ≡ true

-- Whatever the state, the memory stays as long as it was,
abbrev pub LengthMany : Type 0
LengthMany = (m : List ℕ) (s : State) → length (many_encode m s) ≡ length m

-- and its numbers stay below 2^64.
abbrev pub SmallMany : Type 0
SmallMany = (m : List ℕ) (s : State) → every (λ x. nat_lt x (2 ^ 64)) m ≡ true → every (λ x. nat_lt x (2 ^ 64)) (many_encode m s) ≡ true

-- All zeros stand for the glass at first, with a fresh screen of one cell.
abbrev pub ManyZero : Type 0
ManyZero = (many_fits (so_many memory_size 0) ≡ true) × (many_decode (so_many memory_size 0) ≡ state at_first (fresh_view 1 1))

-- what is known of a memory in use, from its head and the numbers from the first terminal's header on
pub record InUse (h hs : List ℕ) : Type 0 where
  pub kind : slice_index_or h 0 0 ≡ 2
  pub some_wide : 0 < slice_index h 1
  pub wide : slice_index_or h 1 0 ≤ 200
  pub some_high : 0 < slice_index h 2
  pub high : slice_index_or h 2 0 ≤ 60
  pub at : slice_index_or h 5 0 < 8
  pub next : slice_index_or h 6 0 < 2 ^ 47
  pub few_windows : slice_index_or h 7 0 ≤ 8
  pub few_panes : slice_index_or h 8 0 ≤ 32
  pub focuses : AllByRecursion (λ i. i < 2 ^ 47) (part h 16 8)
  pub codes : AllByRecursion (λ x. x < 2 ^ 47 + 2) (part h 24 64)
  pub numbers : AllByRecursion (λ i. i < 2 ^ 47) (part h 128 32)
  pub layouts : were_read (layouts_in h) ≡ true
  pub headers : headers_fit (slice_index h 8) hs ≡ true
  pub cells : all_asked (slice_index h 8) hs ≤ cells_room

-- Everything else is refused: a memory that is seen to hold a state was never used or is so.
abbrev pub ManyRefuses : Type 0
ManyRefuses = (m : List ℕ) → many_fits m ≡ true → (length m ≡ memory_size) × ((slice_index (head_part m) 0 ≡ 0) ⊎ InUse (head_part m) (drop header_at m))

-- what is put into the memory has room there, area by area
pub record Room (s : State) : Type 0 where
  pub panes : length s.glass.panes ≤ 32
  pub screen : length s.view.cells ≤ 12000
  pub cells : length (all_cells s.glass.panes) ≤ cells_room

-- Whatever was found in a memory has room there, even where it is no state that can come about.
abbrev pub ManyRoom : Type 0
ManyRoom = (m : List ℕ) → many_fits m ≡ true → Room (many_decode m)
