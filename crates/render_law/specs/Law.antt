-- The writer's law: what one go of drawing and the closing go do to the viewer's terminal, and what they cost.
use Rattle.std.specs.Prelude.{◌≡◌, ℕ, ◌+◌, ◌*◌, ◌^◌, ◌<◌, ◌≤◌, Bool, true, List, [], ◌∷◌, length, ◌==◌, nat_lt}
use Rattle.meaning.specs.Words.{pick, every, so_many}
use Rattle.meaning.specs.Screen.{fresh}
use Rattle.meaning.specs.Bytes.{written}
use Rattle.meaning.specs.Picture.{differs}
use Rattle.meaning.specs.Laws.{fine_cell}
use Rattle.grid.specs.Cells.{unpacked, rows_of, blank_number}
use Rattle.render.specs.Pens.{fresh_pen}
use Rattle.render.specs.Draw.{Go, drawn}
use Rattle.render.specs.Finish.{Finish, finished}
use Rattle.render.specs.declared.pen.Pen.{Pen}
use Rattle.render_law.specs.View.{viewer}

-- in how many cells two flat pictures differ
unfoldable pub differing : List ℕ → List ℕ → ℕ
differing [] ps = 0
differing (x ∷ xs) [] = 0
differing (x ∷ xs) (p ∷ ps) = pick (x == p) 0 1 + differing xs ps

-- every cell can be drawn
abbrev pub all_fine : List ℕ → Bool
all_fine xs = every (λ x. fine_cell (unpacked x)) xs

abbrev pub all_bytes : List ℕ → Bool
all_bytes bs = every (λ b. nat_lt b 256) bs

-- one go of drawing pic on a terminal that shows `screen`
pub record Draws (w h room : ℕ) (pic screen : List ℕ) (pen : Pen) (d : Go) : Type 0 where
  pub goes : written (viewer w h screen pen) d.bytes ≡ viewer w h d.screen d.pen  -- what is modelled is what is shown
  pub few : length d.bytes + 32 * differing d.screen pic ≤ 32 * differing screen pic  -- at most 32 bytes for each cell that is right then
  pub on : 32 ≤ room → 0 < differing screen pic → 0 < length d.bytes  -- something is sent while something differs
  pub still : differing screen pic ≡ 0 → d ≡ record { screen = screen; pen = pen; bytes = [] }  -- and nothing is when nothing does
  pub within : length d.bytes ≤ room
  pub bytes : all_bytes d.bytes ≡ true

-- a pen on the screen, with numbers as large as the code keeps
pub record Fits (w h : ℕ) (pen : Pen) : Type 0 where
  pub row : pen.row < h
  pub col : pen.col < w
  pub marks : pen.rendition.marks < 2 ^ 16
  pub fore : pen.rendition.fore < 2 ^ 8
  pub back : pen.rendition.back < 2 ^ 8

-- what any go keeps, also where picture, screen or pen are no such thing: the count of cells, what holds of all cells and of a blank, and the pen's range
pub record Keeps (w h : ℕ) (pic screen : List ℕ) (pen : Pen) (d : Go) : Type 0 where
  pub long : length d.screen ≡ length screen
  pub cells : (p : ℕ → Bool) → p blank_number ≡ true → every p screen ≡ true → every p pic ≡ true → every p d.screen ≡ true
  pub fits : Fits w h pen → every (λ x. nat_lt x (2 ^ 64)) pic ≡ true → Fits w h d.pen

-- the closing go, with the cursor wanted at a place or hidden
pub record Closes (w h row col : ℕ) (visible : Bool) (screen : List ℕ) (pen : Pen) (f : Finish) : Type 0 where
  pub goes : written (viewer w h screen pen) f.bytes ≡ viewer w h screen f.pen
  pub few : length f.bytes ≤ 64
  pub bytes : all_bytes f.bytes ≡ true
  pub seen : f.pen.visible ≡ visible
  pub place : visible ≡ true → (f.pen.row ≡ row) × (f.pen.col ≡ col)
  pub still : pen.visible ≡ visible → (visible ≡ true → (pen.row ≡ row) × (pen.col ≡ col)) → f ≡ record { pen = pen; bytes = [] }

pub record WriterLaw : Type 0 where
  pub draws :
      (w h room : ℕ) (pic screen : List ℕ) (pen : Pen) → 0 < w → w ≤ 200 → h ≤ 60 → length screen ≡ h * w → length pic ≡ h * w → all_fine pic ≡ true
      → Draws w h room pic screen pen (drawn w h pic room screen pen)
  pub keeps : (w h room : ℕ) (pic screen : List ℕ) (pen : Pen) → Keeps w h pic screen pen (drawn w h pic room screen pen)
  pub closes :
      (w h row col : ℕ) (visible : Bool) (room : ℕ) (screen : List ℕ) (pen : Pen) → w ≤ 200 → h ≤ 60 → 64 ≤ room → (visible ≡ true → (row < h) × (col < w))
      → Closes w h row col visible screen pen (finished w h row col visible room pen)
  pub close_fits : (w h row col : ℕ) (visible : Bool) (room : ℕ) (pen : Pen) → Fits w h pen → Fits w h (finished w h row col visible room pen).pen
  -- a screen as it comes up is modelled by blanks and a fresh pen
  pub begins : (w h : ℕ) → viewer w h (so_many (h * w) blank_number) fresh_pen ≡ fresh w h
  -- flat pictures differ in as many cells as their rows do, and are the same if in none
  pub flat : (w h : ℕ) (xs ps : List ℕ) → length xs ≡ h * w → length ps ≡ h * w → differs (rows_of w h xs) (rows_of w h ps) ≡ differing xs ps
  pub same : (xs ps : List ℕ) → length xs ≡ length ps → differing xs ps ≡ 0 → xs ≡ ps
  -- flat cells are fine if their rows are
  pub fine : (w h : ℕ) (xs : List ℕ) → length xs ≡ h * w → every (λ r. every fine_cell r) (rows_of w h xs) ≡ true → all_fine xs ≡ true
