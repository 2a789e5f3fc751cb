-- What the code's state stands for: a terminal of the definitions, with rows and answer from the lent memory beside it.
use Rattle.std.specs.Prelude.{ℕ, List, [], ◌∷◌, take, Some, None, Option}
use Rattle.meaning.specs.Screen.{Cell, Term, Saved, Reading, ground_state, escape, sequence, passed, string, string_end}
use Rattle.grid.specs.Cells.{style_of, rows_of}
use Rattle.terminal.specs.declared.state.Kept.{Kept}
use Rattle.terminal.specs.declared.state.Parameters.{Parameters}
use Rattle.terminal.specs.declared.state.Parser.{Parser}
use Rattle.terminal.specs.declared.state.Parser.TheVariants.{Ground, Escape, Sequence, Ignored, Text, TextEnd}
use Rattle.terminal.specs.declared.state.Terminal.{Terminal}

abbrev pub begun_of : Option ℕ → List ℕ
begun_of None = []
begun_of (Some n) = n ∷ []

abbrev pub numbers_of : Parameters → List ℕ
numbers_of p = take p.count p.list

abbrev pub reading_of : Parser → Reading
reading_of Ground = ground_state
reading_of Escape = escape
reading_of (Sequence private p) = sequence private (numbers_of p) (begun_of p.begun)
reading_of Ignored = passed
reading_of Text = string
reading_of TextEnd = string_end

abbrev pub saved_of : Kept → Saved
saved_of k = record { row = k.row; col = k.col; style = style_of k.rendition; origin = k.origin }

-- the state with rows of cells and what has been answered
abbrev pub term_of : Terminal → List (List Cell) → List ℕ → Term
term_of t rs a = record {
  wide = t.size.wide;
  high = t.size.high;
  rows = rs;
  row = t.cursor.row;
  col = t.cursor.col;
  late = t.cursor.pending;
  style = style_of t.rendition;
  top = t.top;
  bottom = t.bottom;
  inserts = t.modes.insert;
  wraps = t.modes.autowrap;
  origin = t.modes.origin;
  shown = t.modes.visible;
  saved = saved_of t.kept;
  reading = reading_of t.parser;
  answer = a;
}

-- the same with the cells in lent memory
abbrev pub term_on : Terminal → List ℕ → List ℕ → Term
term_on t xs a = term_of t (rows_of t.size.wide t.size.high xs) a
