-- The viewer's terminal, as cells and a pen model it.
use Rattle.std.specs.Prelude.{ℕ, ◌-◌, true, false, List, []}
use Rattle.meaning.specs.Screen.{Term, ground_state, at_start}
use Rattle.grid.specs.Cells.{style_of, rows_of}
use Rattle.render.specs.declared.pen.Pen.{Pen}

-- a terminal of w columns and h rows that shows these cells and is set to this pen; all else is as it came up
abbrev pub viewer : ℕ → ℕ → List ℕ → Pen → Term
viewer w h screen pen = record {
  wide = w;
  high = h;
  rows = rows_of w h screen;
  row = pen.row;
  col = pen.col;
  late = pen.pending;
  style = style_of pen.rendition;
  top = 0;
  bottom = h - 1;
  inserts = false;
  wraps = true;
  origin = false;
  shown = pen.visible;
  saved = at_start;
  reading = ground_state;
  answer = [];
}
