-- A terminal's state, all but its rows and its answer, as a header of 64 numbers:
--
--   0, 1      columns and rows
--   2, 3      the cursor's row and column
--   4         is a wrap pending?
--   5         the rendition, as the number of a cell with sign 0
--   6, 7      the scroll region's first and last row
--   8 to 11   insert mode, autowrap, origin mode, is the cursor visible?
--   12, 13    what DECSC saved: row and column, any numbers, since DECRC cuts them to the screen
--   14, 15    its rendition and origin mode
--   16        the parser: 0 ground, 1 after ESC, 2 in a control sequence, 3 in an ignored one, 4 in a control string, 5 after ESC in one
--   17        is the control sequence private?
--   18        how many of its parameters are whole, at most 16
--   19, 20    has one more begun, and its value so far, below 65,536
--   32 to 47  the parameters, each below 65,536
--
-- What is not listed is stored as 0, and so is what the parser's state has no use for. Yes is 1, and any other number is read as no.
use Rattle.std.specs.Prelude.{◌≡◌, ℕ, ◌-◌, ◌^◌, ◌<◌, ◌≤◌, Bool, true, ◌&&◌, ltb, List, [], ◌∷◌, ◌++◌, length, take, drop, replicate, ◌==◌, nat_le, nat_lt, slice_index}
use Rattle.std.specs.List.{AllByRecursion}
use Rattle.meaning.specs.Words.{pick, every}
use Rattle.meaning.specs.Screen.{Style, Cell, Term, Saved, Reading, ground_state, escape, sequence, passed, string, string_end, with_rows, with_answer, fresh, fitted}
use Rattle.meaning.specs.Bytes.{written}
use Rattle.meaning.specs.Laws.{good}
use Rattle.meaning.specs.Promise.{all_small}
use Rattle.grid.specs.Cells.{packed, unpacked}

abbrev pub yes : ℕ → Bool
yes n = n == 1

abbrev pub bit : Bool → ℕ
bit b = pick b 1 0

abbrev pub style_number : Style → ℕ
style_number s = packed (record { sign = 0; style = s })

abbrev pub style_from : ℕ → Style
style_from n = (unpacked n).style

-- FROM NUMBERS
abbrev pub size_fits : List ℕ → Bool
size_fits m = nat_lt 0 (slice_index m 0) && (nat_le (slice_index m 0) 200 && (nat_lt 0 (slice_index m 1) && nat_le (slice_index m 1) 60))

abbrev pub cursor_fits : List ℕ → Bool
cursor_fits m = nat_lt (slice_index m 2) (slice_index m 1) && nat_lt (slice_index m 3) (slice_index m 0)

abbrev pub region_fits : List ℕ → Bool
region_fits m = nat_le (slice_index m 6) (slice_index m 7) && nat_lt (slice_index m 7) (slice_index m 1)

abbrev pub parameters_fit : List ℕ → Bool
parameters_fit ns = every (λ n. ltb n 65536) ns

-- where the parameters stand
abbrev pub parameters_at : List ℕ → List ℕ
parameters_at m = take 16 (drop 32 m)

abbrev pub reading_fits : List ℕ → Bool
reading_fits m = nat_le (slice_index m 16) 5 && (nat_le (slice_index m 18) 16 && (nat_lt (slice_index m 20) 65536 && parameters_fit (parameters_at m)))

-- do these numbers stand for a terminal?
unfoldable pub header_fits : List ℕ → Bool
header_fits m = length m == 64 && (size_fits m && (cursor_fits m && (region_fits m && reading_fits m)))

abbrev pub begun_from : ℕ → ℕ → List ℕ
begun_from k n = pick (yes k) (n ∷ []) []

abbrev pub reading_from : List ℕ → Reading
reading_from m =
    pick (slice_index m 16 == 0) ground_state
    (pick (slice_index m 16 == 1) escape
    (pick (slice_index m 16 == 2) (sequence (yes (slice_index m 17)) (take (slice_index m 18) (parameters_at m)) (begun_from (slice_index m 19) (slice_index m 20)))
    (pick (slice_index m 16 == 3) passed (pick (slice_index m 16 == 4) string string_end))))

abbrev pub saved_from : List ℕ → Saved
saved_from m = record { row = slice_index m 12; col = slice_index m 13; style = style_from (slice_index m 14); origin = yes (slice_index m 15) }

-- the terminal that a header stands for, with rows and an answer from elsewhere
unfoldable pub term_from : List ℕ → List (List Cell) → List ℕ → Term
term_from m rs a = record {
  wide = slice_index m 0;
  high = slice_index m 1;
  rows = rs;
  row = slice_index m 2;
  col = slice_index m 3;
  late = yes (slice_index m 4);
  style = style_from (slice_index m 5);
  top = slice_index m 6;
  bottom = slice_index m 7;
  inserts = yes (slice_index m 8);
  wraps = yes (slice_index m 9);
  origin = yes (slice_index m 10);
  shown = yes (slice_index m 11);
  saved = saved_from m;
  reading = reading_from m;
  answer = a;
}

-- AS NUMBERS
abbrev pub numbers_of_screen : Term → List ℕ
numbers_of_screen t =
    t.wide ∷ t.high ∷ t.row ∷ t.col ∷ bit t.late ∷ style_number t.style ∷ t.top ∷ t.bottom
    ∷ bit t.inserts ∷ bit t.wraps ∷ bit t.origin ∷ bit t.shown
    ∷ t.saved.row ∷ t.saved.col ∷ style_number t.saved.style ∷ bit t.saved.origin ∷ []

abbrev pub has_begun : List ℕ → ℕ
has_begun [] = 0
has_begun (n ∷ ns) = 1

abbrev pub parser_state : ℕ → List ℕ
parser_state k = k ∷ 0 ∷ 0 ∷ 0 ∷ 0 ∷ 0 ∷ 0 ∷ 0 ∷ 0 ∷ 0 ∷ 0 ∷ 0 ∷ 0 ∷ 0 ∷ 0 ∷ 0 ∷ []

abbrev pub numbers_of_parser : Reading → List ℕ
numbers_of_parser ground_state = parser_state 0
numbers_of_parser escape = parser_state 1
numbers_of_parser (sequence private ps now) = 2 ∷ bit private ∷ length ps ∷ has_begun now ∷ slice_index now 0 ∷ 0 ∷ 0 ∷ 0 ∷ 0 ∷ 0 ∷ 0 ∷ 0 ∷ 0 ∷ 0 ∷ 0 ∷ 0 ∷ []
numbers_of_parser passed = parser_state 3
numbers_of_parser string = parser_state 4
numbers_of_parser string_end = parser_state 5

abbrev pub parameters_in : Reading → List ℕ
parameters_in ground_state = []
parameters_in escape = []
parameters_in (sequence private ps now) = ps
parameters_in passed = []
parameters_in string = []
parameters_in string_end = []

-- 32 numbers, whatever the list
abbrev pub padded : List ℕ → List ℕ
padded ns = take 32 ns ++ replicate (32 - length ns) 0

-- the header of a terminal
unfoldable pub header_of : Term → List ℕ
header_of t = numbers_of_screen t ++ (numbers_of_parser t.reading ++ padded (parameters_in t.reading))

-- WHAT A HEADER CAN HOLD
abbrev pub StyleFits : Style → Type 0
StyleFits s = (s.marks < 2 ^ 16) × (s.fore < 2 ^ 8) × (s.back < 2 ^ 8)

abbrev pub ReadingFits : Reading → Type 0
ReadingFits ground_state = Unit {0}
ReadingFits escape = Unit {0}
ReadingFits (sequence private ps now) = (length ps ≤ 16) × AllByRecursion (λ n. n < 65536) ps × (length now ≤ 1) × AllByRecursion (λ n. n < 65536) now
ReadingFits passed = Unit {0}
ReadingFits string = Unit {0}
ReadingFits string_end = Unit {0}

pub record InRange (t : Term) : Type 0 where
  pub some_wide : 0 < t.wide
  pub narrow : t.wide ≤ 200
  pub some_high : 0 < t.high
  pub low : t.high ≤ 60
  pub on_row : t.row < t.high
  pub on_col : t.col < t.wide
  pub ordered : t.top ≤ t.bottom
  pub inside : t.bottom < t.high
  pub writes : StyleFits t.style
  pub saved_row : t.saved.row < 2 ^ 64
  pub saved_col : t.saved.col < 2 ^ 64
  pub saves : StyleFits t.saved.style
  pub reads : ReadingFits t.reading

-- A header is 64 numbers long, whatever the terminal.
abbrev pub HeaderLong : Type 0
HeaderLong = (t : Term) → length (header_of t) ≡ 64

-- What is stored is loaded again: such a terminal's header is accepted and stands for the same terminal, and its numbers are below 2^64.
abbrev pub LoadsBack : Type 0
LoadsBack =
    (t : Term) → InRange t →
    (header_fits (header_of t) ≡ true) × ((rs : List (List Cell)) (a : List ℕ) → term_from (header_of t) rs a ≡ with_answer (with_rows t rs) a)
    × (all_small (header_of t) ≡ true)

-- What is loaded can be stored.
abbrev pub LoadedInRange : Type 0
LoadedInRange = (m : List ℕ) (rs : List (List Cell)) (a : List ℕ) → header_fits m ≡ true → all_small m ≡ true → InRange (term_from m rs a)

-- Whatever is written on a good screen, a header can still hold it; and so it can after another size, and as it comes up.
abbrev pub StaysInRange : Type 0
StaysInRange = (t : Term) (cs : List ℕ) → good t ≡ true → InRange t → InRange (written t cs)

abbrev pub FittedInRange : Type 0
FittedInRange = (t : Term) (w h : ℕ) → 0 < w → w ≤ 200 → 0 < h → h ≤ 60 → InRange t → InRange (fitted t w h)

abbrev pub FreshInRange : Type 0
FreshInRange = (w h : ℕ) → 0 < w → w ≤ 200 → 0 < h → h ≤ 60 → InRange (fresh w h)
