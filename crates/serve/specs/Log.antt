-- The log of what the machine does: how each act is told, the bytes for the viewer's screen, and those for programs.
use Rattle.std.specs.Prelude.{ℕ, ◌+◌, ◌*◌, ◌%◌, List, [], ◌∷◌, ◌++◌, length, take, vec_items}
use Rattle.meaning.specs.Panes.{Says, send, start, sized, stop, leave, over}
use Rattle.meaning.specs.Promise.{Act, write, says, wait}
use Rattle.meaning.specs.declared.answer.Told.{Told}
use Rattle.meaning.specs.declared.answer.Told.TheVariants.{Write, Send, Start, Size, Stop, Leave, Over, Wait, No}
use Rattle.serve.specs.declared.acts.Acts.{Acts}

pub record Log : Type 0 where
  pub lines : List Told
  pub for_viewer : List ℕ
  pub for_programs : List ℕ

abbrev pub no_acts : Log
no_acts = record { lines = []; for_viewer = []; for_programs = [] }

-- the code's log
abbrev pub log_of : Acts → Log
log_of l = record { lines = vec_items l.told; for_viewer = vec_items l.written; for_programs = vec_items l.sent }

-- how an act is told
abbrev pub saying_told : Says → Told
saying_told (send i bs) = Send (65536 * i + length bs)
saying_told (start i w h) = Start (65536 * i + 256 * w + h)
saying_told (sized i w h) = Size (65536 * i + 256 * w + h)
saying_told (stop i) = Stop i
saying_told leave = Leave
saying_told over = Over

abbrev pub act_told : Act → Told
act_told (write bs) = Write (length bs)
act_told (says s) = saying_told s
act_told wait = Wait

-- the bytes that go to the viewer's screen
abbrev pub viewer_bytes : Act → List ℕ
viewer_bytes (write bs) = bs
viewer_bytes (says s) = []
viewer_bytes wait = []

-- the bytes that go to a program: all of them, as long as they are fewer than 65,536; what is told has no room for a higher number
abbrev pub saying_bytes : Says → List ℕ
saying_bytes (send i bs) = take (length bs % 65536) bs
saying_bytes (start i w h) = []
saying_bytes (sized i w h) = []
saying_bytes (stop i) = []
saying_bytes leave = []
saying_bytes over = []

abbrev pub program_bytes : Act → List ℕ
program_bytes (write bs) = []
program_bytes (says s) = saying_bytes s
program_bytes wait = []

-- one more act
abbrev pub noted : Log → Act → Log
noted l act = record {
  lines = l.lines ++ act_told act ∷ [];
  for_viewer = l.for_viewer ++ viewer_bytes act;
  for_programs = l.for_programs ++ program_bytes act;
}

-- the same from what was told, and the row that has its bytes first
abbrev pub row_viewer : Told → List ℕ → List ℕ
row_viewer (Write n) out = take n out
row_viewer (Send n) out = []
row_viewer (Start n) out = []
row_viewer (Size n) out = []
row_viewer (Stop n) out = []
row_viewer Leave out = []
row_viewer Over out = []
row_viewer Wait out = []
row_viewer (No n) out = []

abbrev pub row_programs : Told → List ℕ → List ℕ
row_programs (Write n) out = []
row_programs (Send n) out = take (n % 65536) out
row_programs (Start n) out = []
row_programs (Size n) out = []
row_programs (Stop n) out = []
row_programs Leave out = []
row_programs Over out = []
row_programs Wait out = []
row_programs (No n) out = []

abbrev pub kept : Log → Told → List ℕ → Log
kept l r out = record {
  lines = l.lines ++ r ∷ [];
  for_viewer = l.for_viewer ++ row_viewer r out;
  for_programs = l.for_programs ++ row_programs r out;
}
