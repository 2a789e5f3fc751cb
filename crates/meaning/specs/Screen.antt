-- A terminal's screen: cells, cursor, style, scroll region, modes, and the edits that control functions are made of.
-- Rows and columns count from 0, the first row is the upper one. These are definitions alone; what a byte does is in Bytes.
use Rattle.std.specs.Prelude.{ℕ, suc, ◌+◌, ◌-◌, ◌/◌, ◌%◌, Bool, true, false, ◌&&◌, List, [], ◌∷◌, ◌++◌, length, take, drop, ◌==◌, nat_le, nat_lt}
use Rattle.meaning.specs.Words.{pick, each, so_many, put_at, smaller, larger}

-- graphic rendition: marks is 1 for bold, 2 for underlined and 4 for reverse video, added; fore and ground are the colours, 0 to 7, or 9 for the default
pub record Style : Type 0 where
  pub marks : ℕ
  pub fore : ℕ
  pub back : ℕ

-- a cell: the code of its character, and how it is drawn
pub record Cell : Type 0 where
  pub sign : ℕ
  pub style : Style

abbrev pub plain_style : Style
plain_style = record { marks = 0; fore = 9; back = 9 }

-- an erased cell is plain, whatever style is in force
abbrev pub blank : Cell
blank = record { sign = 32; style = plain_style }

abbrev pub same_style : Style → Style → Bool
same_style a b = a.marks == b.marks && (a.fore == b.fore && a.back == b.back)

abbrev pub same_cell : Cell → Cell → Bool
same_cell a b = a.sign == b.sign && same_style a.style b.style

-- the parser's state: nothing begun; after ESC; in a control sequence (CSI), with whether it is private (a ? came first), the parameters that are whole
-- and the one that has begun, if any; in one that is ignored up to its final byte; in a control string (OSC); in one, after ESC
pub data Reading : Type 0 where
  ground_state : Reading
  escape : Reading
  sequence : Bool → List ℕ → List ℕ → Reading
  passed : Reading
  string : Reading
  string_end : Reading

-- what DECSC saves: the cursor, the style and origin mode, but no pending wrap
pub record Saved : Type 0 where
  pub row : ℕ
  pub col : ℕ
  pub style : Style
  pub origin : Bool

pub record Term : Type 0 where
  pub wide : ℕ
  pub high : ℕ
  pub rows : List (List Cell)
  pub row : ℕ  -- the cursor
  pub col : ℕ
  pub late : Bool  -- pending wrap: the last column has been written, and the next character goes to the next row
  pub style : Style  -- what is written next is drawn so
  pub top : ℕ  -- the scroll region, its first and last row
  pub bottom : ℕ
  pub inserts : Bool  -- insert mode (IRM)
  pub wraps : Bool  -- autowrap (DECAWM)
  pub origin : Bool  -- origin mode (DECOM): rows count from the scroll region's first
  pub shown : Bool  -- is the cursor visible (DECTCEM)?
  pub saved : Saved
  pub reading : Reading
  pub answer : List ℕ  -- what it reports to the program that writes

abbrev pub blank_row : ℕ → List Cell
blank_row w = so_many w blank

abbrev pub at_start : Saved
at_start = record { row = 0; col = 0; style = plain_style; origin = false }

-- a terminal of w columns and h rows as it comes up, and after a full reset (RIS)
abbrev pub fresh : ℕ → ℕ → Term
fresh w h = record {
  wide = w;
  high = h;
  rows = so_many h (blank_row w);
  row = 0;
  col = 0;
  late = false;
  style = plain_style;
  top = 0;
  bottom = h - 1;
  inserts = false;
  wraps = true;
  origin = false;
  shown = true;
  saved = at_start;
  reading = ground_state;
  answer = [];
}

abbrev pub first_row : List (List Cell) → List Cell
first_row [] = []
first_row (r ∷ rs) = r

abbrev pub row_at : List (List Cell) → ℕ → List Cell
row_at rs k = first_row (drop k rs)

abbrev pub with_rows : Term → List (List Cell) → Term
with_rows t rs = record {
  wide = t.wide;
  high = t.high;
  rows = rs;
  row = t.row;
  col = t.col;
  late = t.late;
  style = t.style;
  top = t.top;
  bottom = t.bottom;
  inserts = t.inserts;
  wraps = t.wraps;
  origin = t.origin;
  shown = t.shown;
  saved = t.saved;
  reading = t.reading;
  answer = t.answer;
}

-- the cursor put to a place, even the one where it is, ends a pending wrap
abbrev pub at : Term → ℕ → ℕ → Term
at t r c = record {
  wide = t.wide;
  high = t.high;
  rows = t.rows;
  row = r;
  col = c;
  late = false;
  style = t.style;
  top = t.top;
  bottom = t.bottom;
  inserts = t.inserts;
  wraps = t.wraps;
  origin = t.origin;
  shown = t.shown;
  saved = t.saved;
  reading = t.reading;
  answer = t.answer;
}

abbrev pub made_late : Term → Bool → Term
made_late t l = record {
  wide = t.wide;
  high = t.high;
  rows = t.rows;
  row = t.row;
  col = t.col;
  late = l;
  style = t.style;
  top = t.top;
  bottom = t.bottom;
  inserts = t.inserts;
  wraps = t.wraps;
  origin = t.origin;
  shown = t.shown;
  saved = t.saved;
  reading = t.reading;
  answer = t.answer;
}

abbrev pub with_style : Term → Style → Term
with_style t s = record {
  wide = t.wide;
  high = t.high;
  rows = t.rows;
  row = t.row;
  col = t.col;
  late = t.late;
  style = s;
  top = t.top;
  bottom = t.bottom;
  inserts = t.inserts;
  wraps = t.wraps;
  origin = t.origin;
  shown = t.shown;
  saved = t.saved;
  reading = t.reading;
  answer = t.answer;
}

abbrev pub with_reading : Term → Reading → Term
with_reading t r = record {
  wide = t.wide;
  high = t.high;
  rows = t.rows;
  row = t.row;
  col = t.col;
  late = t.late;
  style = t.style;
  top = t.top;
  bottom = t.bottom;
  inserts = t.inserts;
  wraps = t.wraps;
  origin = t.origin;
  shown = t.shown;
  saved = t.saved;
  reading = r;
  answer = t.answer;
}

abbrev pub with_answer : Term → List ℕ → Term
with_answer t a = record {
  wide = t.wide;
  high = t.high;
  rows = t.rows;
  row = t.row;
  col = t.col;
  late = t.late;
  style = t.style;
  top = t.top;
  bottom = t.bottom;
  inserts = t.inserts;
  wraps = t.wraps;
  origin = t.origin;
  shown = t.shown;
  saved = t.saved;
  reading = t.reading;
  answer = a;
}

abbrev pub with_region : Term → ℕ → ℕ → Term
with_region t a b = record {
  wide = t.wide;
  high = t.high;
  rows = t.rows;
  row = t.row;
  col = t.col;
  late = t.late;
  style = t.style;
  top = a;
  bottom = b;
  inserts = t.inserts;
  wraps = t.wraps;
  origin = t.origin;
  shown = t.shown;
  saved = t.saved;
  reading = t.reading;
  answer = t.answer;
}

abbrev pub with_modes : Term → Bool → Bool → Bool → Bool → Term
with_modes t i w o s = record {
  wide = t.wide;
  high = t.high;
  rows = t.rows;
  row = t.row;
  col = t.col;
  late = t.late;
  style = t.style;
  top = t.top;
  bottom = t.bottom;
  inserts = i;
  wraps = w;
  origin = o;
  shown = s;
  saved = t.saved;
  reading = t.reading;
  answer = t.answer;
}

abbrev pub with_saved : Term → Saved → Term
with_saved t s = record {
  wide = t.wide;
  high = t.high;
  rows = t.rows;
  row = t.row;
  col = t.col;
  late = t.late;
  style = t.style;
  top = t.top;
  bottom = t.bottom;
  inserts = t.inserts;
  wraps = t.wraps;
  origin = t.origin;
  shown = t.shown;
  saved = s;
  reading = t.reading;
  answer = t.answer;
}

-- rows a to b scroll by k: up, with blank rows coming in below, or down, with blank rows above
abbrev pub scrolled_up : ℕ → List (List Cell) → ℕ → ℕ → ℕ → List (List Cell)
scrolled_up w rs a b k = take a rs ++ drop k (take (suc b - a) (drop a rs)) ++ so_many (smaller k (suc b - a)) (blank_row w) ++ drop (suc b) rs

abbrev pub scrolled_down : ℕ → List (List Cell) → ℕ → ℕ → ℕ → List (List Cell)
scrolled_down w rs a b k = take a rs ++ so_many (smaller k (suc b - a)) (blank_row w) ++ take (suc b - a - k) (drop a rs) ++ drop (suc b) rs

abbrev pub up_by : Term → ℕ → Term
up_by t k = with_rows t (scrolled_up t.wide t.rows t.top t.bottom k)

abbrev pub down_by : Term → ℕ → Term
down_by t k = with_rows t (scrolled_down t.wide t.rows t.top t.bottom k)

-- a row down (IND), scrolling at the region's last row; a row up (RI), scrolling at its first
abbrev pub row_on : Term → Term
row_on t = pick (t.row == t.bottom) (at (up_by t 1) t.row t.col) (at t (smaller (suc t.row) (t.high - 1)) t.col)

abbrev pub row_back : Term → Term
row_back t = pick (t.row == t.top) (at (down_by t 1) t.row t.col) (at t (t.row - 1) t.col)

-- the cursor's row changed
abbrev pub change_row : Term → (List Cell → List Cell) → Term
change_row t f = with_rows t (put_at t.rows t.row (f (row_at t.rows t.row)))

-- within a row of w cells: k blanks inserted at c (ICH), k cells deleted there (DCH), the cells from a up to b erased
abbrev pub opened : ℕ → ℕ → ℕ → List Cell → List Cell
opened w c k r = take w (take c r ++ so_many k blank ++ drop c r)

abbrev pub closed : ℕ → ℕ → ℕ → List Cell → List Cell
closed w c k r = take c r ++ drop (c + k) r ++ so_many (smaller k (w - c)) blank

abbrev pub wiped : ℕ → ℕ → List Cell → List Cell
wiped a b r = take a r ++ so_many (smaller b (length r) - a) blank ++ drop (larger a b) r

-- a character written at the cursor, in insert mode after room is made for it
abbrev pub put_sign : Term → ℕ → Term
put_sign t c =
    let r : Term = pick t.inserts (change_row t (opened t.wide t.col 1)) t in
    change_row r (λ x. put_at x t.col (record { sign = c; style = t.style }))

-- the cursor one column on; at the last it stays, with a wrap pending if autowrap is set
abbrev pub step_right : Term → Term
step_right t = pick (nat_lt (suc t.col) t.wide) (at t t.row (suc t.col)) (made_late t t.wraps)

-- a printable character: a pending wrap is done first
unfoldable pub printed : Term → ℕ → Term
printed t c = step_right (put_sign (pick t.late (at (row_on t) (row_on t).row 0) t) c)

-- the cursor addressed (CUP), within the scroll region in origin mode
unfoldable pub goes_to : Term → ℕ → ℕ → Term
goes_to t r c =
    pick t.origin (at t (smaller t.bottom (t.top + r)) (smaller (t.wide - 1) c)) (at t (smaller (t.high - 1) r) (smaller (t.wide - 1) c))

-- the cursor k rows up (CUU) or down (CUD), not past the scroll region's edge if it is on this side of it
abbrev pub goes_up : Term → ℕ → Term
goes_up t k = at t (pick (nat_le t.top t.row) (larger t.top (t.row - k)) (t.row - k)) t.col

abbrev pub goes_down : Term → ℕ → Term
goes_down t k = at t (pick (nat_le t.row t.bottom) (smaller t.bottom (t.row + k)) (smaller (t.high - 1) (t.row + k))) t.col

-- erase in line (EL) and in display (ED): 0 from the cursor on, 1 up to the cursor and with it, 2 all; other numbers nothing
abbrev pub wipe_row : Term → ℕ → Term
wipe_row t k =
    pick (k == 0) (change_row t (wiped t.col t.wide)) (pick (k == 1) (change_row t (wiped 0 (suc t.col))) (pick (k == 2) (change_row t (wiped 0 t.wide)) t))

abbrev pub wipe_all : Term → ℕ → Term
wipe_all t k =
    pick (k == 0) (let r : Term = wipe_row t 0 in with_rows r (take (suc t.row) r.rows ++ so_many (t.high - suc t.row) (blank_row t.wide)))
    (pick (k == 1) (let r : Term = wipe_row t 1 in with_rows r (so_many t.row (blank_row t.wide) ++ drop t.row r.rows))
    (pick (k == 2) (with_rows t (so_many t.high (blank_row t.wide))) t))

abbrev pub in_region : Term → Bool
in_region t = nat_le t.top t.row && nat_le t.row t.bottom

-- k blank rows inserted at the cursor (IL), or k rows deleted there (DL), within the scroll region; the cursor goes to column 0
abbrev pub lines_in : Term → ℕ → Term
lines_in t k = pick (in_region t) (at (with_rows t (scrolled_down t.wide t.rows t.row t.bottom k)) t.row 0) t

abbrev pub lines_out : Term → ℕ → Term
lines_out t k = pick (in_region t) (at (with_rows t (scrolled_up t.wide t.rows t.row t.bottom k)) t.row 0) t

-- the scroll region set (DECSTBM) to rows a to b, counted from 1, b = 0 for the last; nothing where a is not before b
abbrev pub region : Term → ℕ → ℕ → Term
region t a b =
    let last : ℕ = pick (b == 0) t.high (smaller b t.high) in
    pick (nat_lt a last) (goes_to (with_region t (a - 1) (last - 1)) 0 0) t

-- a mark set in a sum of marks, or taken out
abbrev pub bit_on : ℕ → ℕ → ℕ
bit_on b m = pick (m / b % 2 == 0) (m + b) m

abbrev pub bit_off : ℕ → ℕ → ℕ
bit_off b m = pick (m / b % 2 == 0) m (m - b)

abbrev pub marked : Style → ℕ → Style
marked s m = record { marks = m; fore = s.fore; back = s.back }

-- one number of SGR
abbrev pub styled_one : Style → ℕ → Style
styled_one s n =
    pick (n == 0) plain_style (pick (n == 1) (marked s (bit_on 1 s.marks)) (pick (n == 4) (marked s (bit_on 2 s.marks)) (pick (n == 7) (marked s (bit_on 4 s.marks))
    (pick (n == 22) (marked s (bit_off 1 s.marks)) (pick (n == 24) (marked s (bit_off 2 s.marks)) (pick (n == 27) (marked s (bit_off 4 s.marks))
    (pick (nat_le 30 n && nat_le n 37) (record { marks = s.marks; fore = n - 30; back = s.back }) (pick (n == 39) (record { marks = s.marks; fore = 9; back = s.back })
    (pick (nat_le 40 n && nat_le n 47) (record { marks = s.marks; fore = s.fore; back = n - 40 }) (pick (n == 49) (record { marks = s.marks; fore = s.fore; back = 9 }) s))))))))))

-- all numbers of one SGR, in order
unfoldable pub styled : Style → List ℕ → Style
styled s [] = s
styled s (n ∷ ns) = styled (styled_one s n) ns

-- save cursor (DECSC) and restore cursor (DECRC), the place cut to the screen
abbrev pub save : Term → Term
save t = with_saved t (record { row = t.row; col = t.col; style = t.style; origin = t.origin })

abbrev pub restore : Term → Term
restore t =
    let s : Saved = t.saved in
    with_modes (with_style (at t (smaller (t.high - 1) s.row) (smaller (t.wide - 1) s.col)) s.style) t.inserts t.wraps s.origin t.shown

-- another size: if there are fewer rows, as many leave above as it takes to keep the cursor's; what is new is blank; the whole screen scrolls again
abbrev pub fitted_row : ℕ → List Cell → List Cell
fitted_row w r = take w (r ++ blank_row w)

abbrev pub fitted : Term → ℕ → ℕ → Term
fitted t w h =
    let k : ℕ = suc t.row - h in
    record {
      wide = w;
      high = h;
      rows = take h (each (fitted_row w) (drop k t.rows) ++ so_many h (blank_row w));
      row = t.row - k;
      col = smaller (w - 1) t.col;
      late = false;
      style = t.style;
      top = 0;
      bottom = h - 1;
      inserts = t.inserts;
      wraps = t.wraps;
      origin = false;
      shown = t.shown;
      saved = at_start;
      reading = t.reading;
      answer = t.answer;
    }
