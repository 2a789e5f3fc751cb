-- What a viewer's terminal is set to, and what a character does to that.
use Rattle.std.specs.Prelude.{ℕ, ◌+◌, ◌/◌, ◌%◌, ◌^◌, Bool, true, false, not, ◌&&◌, ◌==◌, nat_lt}
use Rattle.meaning.specs.Words.{pick}
use Rattle.grid.specs.declared.cell.Rendition.{Rendition}
use Rattle.render.specs.declared.pen.Pen.{Pen}

abbrev pub fresh_pen : Pen
fresh_pen = record { row = 0; col = 0; pending = false; rendition = record { marks = 0; fore = 9; back = 9 }; visible = true }

-- how the cell of this number is drawn
abbrev pub rendition_of : ℕ → Rendition
rendition_of p = record { marks = p / 2 ^ 32 % 2 ^ 16; fore = p / 2 ^ 48 % 2 ^ 8; back = p / 2 ^ 56 }

abbrev pub same_rendition : Rendition → Rendition → Bool
same_rendition a b = a.marks == b.marks && (a.fore == b.fore && a.back == b.back)

-- a character sent now goes to this place: with a wrap pending it would go to the next row
abbrev pub is_at : Pen → ℕ → ℕ → Bool
is_at pen row col = not pen.pending && (pen.row == row && pen.col == col)

-- after a character at a place of a screen of w columns
abbrev pub pen_after : ℕ → Pen → ℕ → ℕ → Rendition → Pen
pen_after w pen row col r =
    record { row = row; col = pick (nat_lt (col + 1) w) (col + 1) col; pending = not (nat_lt (col + 1) w); rendition = r; visible = pen.visible }
