-- The lines that acts are printed as.
use Rattle.std.specs.Prelude.{ℕ, ◌/◌, ◌%◌, List, [], ◌∷◌, ◌++◌, take, drop, codes, decimal}
use Rattle.meaning.specs.declared.answer.Told.{Told}
use Rattle.meaning.specs.declared.answer.Told.TheVariants.{Write, Send, Start, Size, Stop, Leave, Over, Wait, No}
use Rattle.days.specs.Text.{escaped}

-- a blank and a number
abbrev pub number_behind : ℕ → List ℕ
number_behind n = 32 ∷ decimal n

-- a blank and a text between quotes, which ends the line
abbrev pub text_behind : List ℕ → List ℕ
text_behind bs = 32 ∷ 34 ∷ (escaped bs ++ 34 ∷ 10 ∷ [])

-- a word, a pane and its size, of a number that holds 65,536 times the pane, 256 times the columns, and the rows
abbrev pub sized_line : List ℕ → ℕ → List ℕ
sized_line word n = word ++ (number_behind (n / 65536) ++ (number_behind (n / 256 % 256) ++ (number_behind (n % 256) ++ 10 ∷ [])))

abbrev pub numbered_line : List ℕ → ℕ → List ℕ
numbered_line word n = word ++ (number_behind n ++ 10 ∷ [])

-- 65,536 times the pane, and how many bytes
abbrev pub send_line : ℕ → List ℕ → List ℕ
send_line n bs = codes "send" ++ (number_behind (n / 65536) ++ text_behind (take (n % 65536) bs))

abbrev pub write_line : ℕ → List ℕ → List ℕ
write_line n bs = codes "write" ++ text_behind (take n bs)

-- the line of an act, with its end; bs are the bytes that stand beside it
abbrev pub act_line : Told → List ℕ → List ℕ
act_line (Write n) bs = write_line n bs
act_line (Send n) bs = send_line n bs
act_line (Start n) bs = sized_line (codes "start") n
act_line (Size n) bs = sized_line (codes "size") n
act_line (Stop n) bs = numbered_line (codes "stop") n
act_line Leave bs = codes "leave" ++ 10 ∷ []
act_line Over bs = codes "over" ++ 10 ∷ []
act_line Wait bs = codes "wait" ++ 10 ∷ []
act_line (No n) bs = numbered_line (codes "no") n

-- what is left of the bytes of all writes behind those of one act, and of the bytes of all sends
abbrev pub written_left : Told → List ℕ → List ℕ
written_left (Write n) ws = drop n ws
written_left (Send n) ws = ws
written_left (Start n) ws = ws
written_left (Size n) ws = ws
written_left (Stop n) ws = ws
written_left Leave ws = ws
written_left Over ws = ws
written_left Wait ws = ws
written_left (No n) ws = ws

abbrev pub sent_left : Told → List ℕ → List ℕ
sent_left (Write n) ss = ss
sent_left (Send n) ss = drop (n % 65536) ss
sent_left (Start n) ss = ss
sent_left (Size n) ss = ss
sent_left (Stop n) ss = ss
sent_left Leave ss = ss
sent_left Over ss = ss
sent_left Wait ss = ss
sent_left (No n) ss = ss

-- the line of an act whose bytes are the first of the one or of the other
abbrev pub print_so : Told → List ℕ → List ℕ → List ℕ
print_so (Write n) ws ss = act_line (Write n) ws
print_so (Send n) ws ss = act_line (Send n) ss
print_so (Start n) ws ss = act_line (Start n) []
print_so (Size n) ws ss = act_line (Size n) []
print_so (Stop n) ws ss = act_line (Stop n) []
print_so Leave ws ss = act_line Leave []
print_so Over ws ss = act_line Over []
print_so Wait ws ss = act_line Wait []
print_so (No n) ws ss = act_line (No n) []

-- the lines of acts in order
unfoldable pub acts_lines : List Told → List ℕ → List ℕ → List ℕ
acts_lines [] ws ss = []
acts_lines (r ∷ rs) ws ss = print_so r ws ss ++ acts_lines rs (written_left r ws) (sent_left r ss)
