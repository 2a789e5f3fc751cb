-- One go of drawing: what a terminal that shows one picture is sent so that it shows another, as far as there is room.
use Rattle.std.specs.Prelude.{◌≡◌, ℕ, ◌+◌, ◌*◌, ◌/◌, ◌%◌, ◌≤◌, ◌&&◌, List, [], ◌∷◌, ◌++◌, length, drop, ◌==◌, nat_le, slice_index, slice_set}
use Rattle.meaning.specs.Words.{pick}
use Rattle.grid.specs.declared.cell.Rendition.{Rendition}
use Rattle.render.specs.declared.pen.Pen.{Pen}
use Rattle.render.specs.Pens.{rendition_of, same_rendition, is_at, pen_after}
use Rattle.render.specs.Sequences.{cursor_position, graphic_rendition}

-- an address only if the next character would go elsewhere
abbrev pub move_bytes : Pen → ℕ → ℕ → List ℕ
move_bytes pen row col = pick (is_at pen row col) [] (cursor_position row col)

-- a rendition only if it is another
abbrev pub restyle_bytes : Rendition → Rendition → List ℕ
restyle_bytes was r = pick (same_rendition was r) [] (graphic_rendition r.marks r.fore r.back)

-- all that one cell costs; of a number that is no character's the lowest byte is sent
unfoldable pub cell_bytes : Pen → ℕ → ℕ → ℕ → List ℕ
cell_bytes pen row col p = move_bytes pen row col ++ (restyle_bytes pen.rendition (rendition_of p) ++ (p % 256 ∷ []))

-- the cells that the terminal shows, what it is set to, and the bytes sent so far
pub record Go : Type 0 where
  pub screen : List ℕ
  pub pen : Pen
  pub bytes : List ℕ

-- cell i is to be p: sent if it differs and there is room
unfoldable pub drawn_cell : ℕ → ℕ → ℕ → ℕ → Go → Go
drawn_cell w room i p s =
    pick (slice_index s.screen i == p) s
    (pick (nat_le (length s.bytes + 32) room)
    (record {
      screen = slice_set s.screen i p;
      pen = pen_after w s.pen (i / w) (i % w) (rendition_of p);
      bytes = s.bytes ++ cell_bytes s.pen (i / w) (i % w) p;
    })
    s)

-- the cells from i on
unfoldable pub drawn_from : ℕ → ℕ → List ℕ → ℕ → Go → Go
drawn_from w room [] i s = s
drawn_from w room (p ∷ ps) i s = drawn_from w room ps (i + 1) (drawn_cell w room i p s)

abbrev pub at_start : List ℕ → Pen → Go
at_start screen pen = record { screen = screen; pen = pen; bytes = [] }

-- a whole go; nothing is done if screen or picture are not of w columns and h rows
unfoldable pub drawn : (w h : ℕ) (picture : List ℕ) (room : ℕ) (screen : List ℕ) (pen : Pen) → Go
drawn w h picture room screen pen =
    pick (length screen == h * w && length picture == h * w) (drawn_from w room picture 0 (at_start screen pen)) (at_start screen pen)

-- the go has been done: cells and pen are so, the first r bytes of the lent row are those to send, and the others are kept
pub record Drew (d : Go) (screen : List ℕ) (pen : Pen) (r : ℕ) (out out₁ : List ℕ) : Type 0 where
  pub shows : screen ≡ d.screen
  pub set_to : pen ≡ d.pen
  pub sent : r ≡ length d.bytes
  pub within : r ≤ length out
  pub so : out₁ ≡ d.bytes ++ drop (length d.bytes) out
