-- A viewer's terminal by its rows, cursor, style and cursor's visibility, and what may change in it.
use Rattle.std.proofs.Common.{ℕ, suc, ◌-◌, Bool, true, false, ltb, List, []}
use Rattle.meaning.specs.Words.{pick, put_at}
use Rattle.meaning.specs.Screen.{Style, Cell, Term, Reading, ground_state, at_start, row_at}
use Rattle.grid.specs.Cells.{style_of, rows_of}
use Rattle.render.specs.declared.pen.Pen.{Pen}

pub record View : Type 0 where
  pub wide : ℕ
  pub high : ℕ
  pub rows : List (List Cell)
  pub row : ℕ
  pub col : ℕ
  pub late : Bool
  pub style : Style
  pub shown : Bool

-- in a state of the parser, and with nothing begun
abbrev pub term_at : View → Reading → Term
term_at v rd = record {
  wide = v.wide;
  high = v.high;
  rows = v.rows;
  row = v.row;
  col = v.col;
  late = v.late;
  style = v.style;
  top = 0;
  bottom = v.high - 1;
  inserts = false;
  wraps = true;
  origin = false;
  shown = v.shown;
  saved = at_start;
  reading = rd;
  answer = [];
}

abbrev pub term_of : View → Term
term_of v = term_at v ground_state

abbrev pub view_of : ℕ → ℕ → List ℕ → Pen → View
view_of w h screen pen =
    record { wide = w; high = h; rows = rows_of w h screen; row = pen.row; col = pen.col; late = pen.pending; style = style_of pen.rendition; shown = pen.visible }

abbrev pub moved : View → ℕ → ℕ → View
moved v r c = record { wide = v.wide; high = v.high; rows = v.rows; row = r; col = c; late = false; style = v.style; shown = v.shown }

abbrev pub restyled : View → Style → View
restyled v s = record { wide = v.wide; high = v.high; rows = v.rows; row = v.row; col = v.col; late = v.late; style = s; shown = v.shown }

abbrev pub shown_so : View → Bool → View
shown_so v b = record { wide = v.wide; high = v.high; rows = v.rows; row = v.row; col = v.col; late = v.late; style = v.style; shown = b }

-- a character written at the cursor, where no wrap is pending
abbrev pub filled : View → Cell → Bool → View
filled v x late = record {
  wide = v.wide;
  high = v.high;
  rows = put_at v.rows v.row (put_at (row_at v.rows v.row) v.col x);
  row = v.row;
  col = v.col;
  late = late;
  style = v.style;
  shown = v.shown;
}

abbrev pub signed : View → ℕ → View
signed v c =
    let x : Cell = record { sign = c; style = v.style } in
    pick (ltb (suc v.col) v.wide) (moved (filled v x false) v.row (suc v.col)) (filled v x true)
