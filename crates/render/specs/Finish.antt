-- The closing go: the cursor is put where it is to be, and shown or hidden.
use Rattle.std.specs.Prelude.{◌≡◌, ℕ, ◌≤◌, Bool, false, not, ◌&&◌, List, [], ◌++◌, length, drop, ◌==◌, nat_le, nat_lt}
use Rattle.std.specs.Bool.{beq}
use Rattle.meaning.specs.Words.{pick, or}
use Rattle.render.specs.declared.pen.Pen.{Pen}
use Rattle.render.specs.Sequences.{cursor_position, cursor_visible}

abbrev pub same_truth : Bool → Bool → Bool
same_truth a b = beq a b

-- a hidden cursor may be anywhere, a visible one only on the screen
abbrev pub can_be_at : (w h row col : ℕ) → Bool → Bool
can_be_at w h row col visible = or (not visible) (nat_lt row h && nat_lt col w)

-- the cursor is where it is to be seen; a wrap that is pending does not move it
abbrev pub seen_at : Pen → ℕ → ℕ → Bool → Bool
seen_at pen row col visible = or (not visible) (pen.row == row && pen.col == col)

abbrev pub place_bytes : Pen → ℕ → ℕ → Bool → List ℕ
place_bytes pen row col visible = pick (seen_at pen row col visible) [] (cursor_position row col)

abbrev pub visible_bytes : Bool → Bool → List ℕ
visible_bytes was visible = pick (same_truth was visible) [] (cursor_visible visible)

unfoldable pub finish_bytes : Pen → ℕ → ℕ → Bool → List ℕ
finish_bytes pen row col visible = place_bytes pen row col visible ++ visible_bytes pen.visible visible

abbrev pub finish_pen : Pen → ℕ → ℕ → Bool → Pen
finish_pen pen row col visible =
    pick (seen_at pen row col visible)
    (record { row = pen.row; col = pen.col; pending = pen.pending; rendition = pen.rendition; visible = visible })
    (record { row = row; col = col; pending = false; rendition = pen.rendition; visible = visible })

-- what the terminal is set to then, and the bytes
pub record Finish : Type 0 where
  pub pen : Pen
  pub bytes : List ℕ

-- nothing is done without room for 16 bytes, or if the cursor is to be seen outside the screen
unfoldable pub finished : (w h row col : ℕ) (visible : Bool) (room : ℕ) (pen : Pen) → Finish
finished w h row col visible room pen =
    pick (nat_le 16 room && can_be_at w h row col visible)
    (record { pen = finish_pen pen row col visible; bytes = finish_bytes pen row col visible })
    (record { pen = pen; bytes = [] })

-- the closing go has been done
pub record Finished (f : Finish) (pen : Pen) (r : ℕ) (out out₁ : List ℕ) : Type 0 where
  pub set_to : pen ≡ f.pen
  pub sent : r ≡ length f.bytes
  pub within : r ≤ length out
  pub so : out₁ ≡ f.bytes ++ drop (length f.bytes) out
