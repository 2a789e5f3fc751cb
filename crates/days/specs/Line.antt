-- What the lines of a day say, and how a day is cut into lines.
use Rattle.std.specs.Prelude.{◌≡◌, ℕ, ◌+◌, ◌-◌, ◌*◌, Bool, not, ◌&&◌, ◌⊎◌, List, [], ◌∷◌, length, take, drop, Some, None, Ok, Err, vec_items, codes, Option, Result, MatchResult, ◌==◌, nat_le, slice_index}
use Rattle.std.specs.List.{prefix_len}
use Rattle.std.specs.Str.{bytes_eq}
use Rattle.meaning.specs.Words.{pick, or, every}
use Rattle.days.specs.declared.fault.Fault.{Fault}
use Rattle.days.specs.declared.fault.Fault.TheVariants.{Memory, UnknownWord, BadNumber, BadSize, BadText, TooLong}
use Rattle.days.specs.declared.line.Line.{Line}
use Rattle.days.specs.declared.line.Line.TheVariants.{Look, Keys, From, Gone, Show, Nothing}
use Rattle.days.specs.Text.{unescaped}

-- one thing that comes: columns and rows, keys, bytes from a pane, a pane's end; or a mark to show the screen, or nothing
pub data Thing : Type 0 where
  look : ℕ → ℕ → Thing
  keys : List ℕ → Thing
  sent : ℕ → List ℕ → Thing
  gone : ℕ → Thing
  show : Thing
  nothing : Thing

abbrev pub thing_of : Line → Thing
thing_of (Look w h) = look w h
thing_of (Keys v) = keys (vec_items v)
thing_of (From p v) = sent p (vec_items v)
thing_of (Gone p) = gone p
thing_of Show = show
thing_of Nothing = nothing

-- how many bytes stand before the first `stop`, or in all
abbrev pub up_to : List ℕ → ℕ → ℕ
up_to cs stop = prefix_len (λ b. not (b == stop)) cs

-- the bytes before the first blank, and those behind it
abbrev pub word : List ℕ → List ℕ
word cs = take (up_to cs 32) cs

abbrev pub behind : List ℕ → List ℕ
behind cs = drop (up_to cs 32 + 1) cs

abbrev pub is_digit : ℕ → Bool
is_digit c = nat_le 48 c && nat_le c 57

-- the number that goes on from n with these digits, where all are digits
unfoldable pub number_on : ℕ → List ℕ → Option ℕ
number_on n [] = Some n
number_on n (c ∷ cs) = pick (is_digit c) (number_on (10 * n + (c - 48)) cs) None

-- one to ten digits
abbrev pub number_of : List ℕ → Option ℕ
number_of cs = pick (nat_le 1 (length cs) && nat_le (length cs) 10) (number_on 0 cs) None

-- a text between quotes
abbrev pub is_quoted : List ℕ → Bool
is_quoted cs = nat_le 2 (length cs) && (slice_index cs 0 == 34 && slice_index cs (length cs - 1) == 34)

abbrev pub quoted : List ℕ → Option (List ℕ)
quoted cs = pick (is_quoted cs) (unescaped (take (length cs - 2) (drop 1 cs))) None

abbrev pub is_size : ℕ → ℕ → Bool
is_size w h = nat_le 1 w && (nat_le w 200 && (nat_le 2 h && nat_le h 60))

abbrev pub look_at : Option ℕ → Option ℕ → Result Thing Fault
look_at None h = Err BadNumber
look_at (Some w) None = Err BadNumber
look_at (Some w) (Some h) = pick (is_size w h) (Ok (look w h)) (Err BadSize)

abbrev pub keys_at : Option (List ℕ) → Result Thing Fault
keys_at None = Err BadText
keys_at (Some bs) = Ok (keys bs)

abbrev pub sent_at : Option ℕ → Option (List ℕ) → Result Thing Fault
sent_at None t = Err BadNumber
sent_at (Some p) None = Err BadText
sent_at (Some p) (Some bs) = pick (nat_le (length bs) 4096) (Ok (sent p bs)) (Err TooLong)

abbrev pub gone_at : Option ℕ → Result Thing Fault
gone_at None = Err BadNumber
gone_at (Some p) = Ok (gone p)

abbrev pub begins : List ℕ → List ℕ → Bool
begins cs w = bytes_eq (take (length w) cs) w

abbrev pub is_blank : ℕ → Bool
is_blank b = or (b == 32) (b == 9)

-- blanks and tabs only, or a comment
abbrev pub all_blank : List ℕ → Bool
all_blank cs = every is_blank cs

abbrev pub passed_over : List ℕ → Bool
passed_over cs = or (all_blank cs) (begins cs (codes "#"))

-- a line without its end
unfoldable pub line_of : List ℕ → Result Thing Fault
line_of cs =
    pick (passed_over cs) (Ok nothing)
    (pick (bytes_eq cs (codes "show")) (Ok show)
    (pick (begins cs (codes "look ")) (look_at (number_of (word (drop 5 cs))) (number_of (behind (drop 5 cs))))
    (pick (begins cs (codes "keys ")) (keys_at (quoted (drop 5 cs)))
    (pick (begins cs (codes "from ")) (sent_at (number_of (word (drop 5 cs))) (quoted (behind (drop 5 cs))))
    (pick (begins cs (codes "gone ")) (gone_at (number_of (drop 5 cs))) (Err UnknownWord))))))

-- what a reader answers: what the definition says, both ways, unless memory fails
abbrev pub LineRead : Result Line Fault → Result Thing Fault → Type 0
LineRead r o = MatchResult r (λ l. o ≡ Ok (thing_of l)) (λ e. (e ≡ Memory) ⊎ (o ≡ Err e))
