-- What the two entries answer: the one that changes a style, and one step of the machine, which is told in numbers and tells the world outside in numbers.
use Rattle.std.specs.Prelude.{◌≡◌, ℕ, ◌+◌, ◌*◌, ◌/◌, ◌%◌, Bool, true, false, ◌&&◌, List, ◌++◌, length, drop, ◌==◌, nat_le, nat_lt, Ok, Err, Result}
use Rattle.meaning.specs.Words.{pick, or}
use Rattle.meaning.specs.Screen.{Style, styled}
use Rattle.meaning.specs.Panes.{key, from, gone, attach, Says, send, start, sized, stop, leave, over}
use Rattle.meaning.specs.Promise.{Engine, ToldIt, comes, next, Act, write, says, wait}
use Rattle.meaning.specs.declared.answer.Refusal.{Refusal}
use Rattle.meaning.specs.declared.answer.Refusal.TheVariants.{NoStyle, TooMany}
use Rattle.meaning.specs.declared.answer.Told.{Told}
use Rattle.meaning.specs.declared.answer.Told.TheVariants.{Write, Send, Start, Size, Stop, Leave, Over, Wait, No}

-- a style as one number: marks times 100, the colour times 10, the ground
abbrev pub as_style : ℕ → Style
as_style n = record { marks = n / 100; fore = n / 10 % 10; back = n % 10 }

abbrev pub as_number : Style → ℕ
as_number s = 100 * s.marks + 10 * s.fore + s.back

abbrev pub a_colour : ℕ → Bool
a_colour k = or (nat_lt k 8) (k == 9)

abbrev pub a_style : ℕ → Bool
a_style n = (nat_lt n 800 && a_colour (n / 10 % 10)) && a_colour (n % 10)

-- a style after the numbers of one SGR as they stand; `NoStyle` (the statement's refusal 1) if the number is no style, `TooMany` (its 2) if there are more than 16 numbers
abbrev pub restyled : ℕ → List ℕ → Result ℕ Refusal
restyled n ns =
    pick (a_style n) (pick (nat_le (length ns) 16) (Ok (as_number (styled (as_style n) ns))) (Err TooMany)) (Err NoStyle)

-- what comes in is a kind, a number or two, and some bytes: 0 a key, 1 bytes from a program, 2 a program's end, 3 a viewer's size, 4 go on
unfoldable pub told_of : ℕ → ℕ → ℕ → List ℕ → ToldIt
told_of k a b bs = pick (k == 0) (comes (key a)) (pick (k == 1) (comes (from a bs)) (pick (k == 2) (comes (gone a)) (pick (k == 3) (comes (attach a b)) next)))

-- how a saying is told: its case with its values in one number, and bytes in the row that is lent for them
unfoldable pub SaysTold : Says → Told → (out out₁ : List ℕ) → Type 0
SaysTold (send i bs) r out out₁ = (r ≡ Send (65536 * i + length bs)) × (out₁ ≡ bs ++ drop (length bs) out)
SaysTold (start i w h) r out out₁ = (r ≡ Start (65536 * i + 256 * w + h)) × (out₁ ≡ out)
SaysTold (sized i w h) r out out₁ = (r ≡ Size (65536 * i + 256 * w + h)) × (out₁ ≡ out)
SaysTold (stop i) r out out₁ = (r ≡ Stop i) × (out₁ ≡ out)
SaysTold leave r out out₁ = (r ≡ Leave) × (out₁ ≡ out)
SaysTold over r out out₁ = (r ≡ Over) × (out₁ ≡ out)

-- how an act is told
unfoldable pub ActTold : Act → Told → (out out₁ : List ℕ) → Type 0
ActTold (write bs) r out out₁ = (r ≡ Write (length bs)) × (out₁ ≡ bs ++ drop (length bs) out)
ActTold (says s) r out out₁ = SaysTold s r out out₁
ActTold wait r out out₁ = (r ≡ Wait) × (out₁ ≡ out)

-- one step of the machine e, for memories of its own length and a lent row of 65,536 bytes; for others number 0 is told and nothing is changed
unfoldable pub StepSays : Engine → (memory : List ℕ) (kind a b : ℕ) (bytes out : List ℕ) → Bool → Told → (memory₁ out₁ : List ℕ) → Type 0
StepSays e memory kind a b bytes out true r memory₁ out₁ =
    (memory₁ ≡ (e.step memory (told_of kind a b bytes)).memory) × ActTold (e.step memory (told_of kind a b bytes)).act r out out₁
StepSays e memory kind a b bytes out false r memory₁ out₁ = (r ≡ No 0) × (memory₁ ≡ memory) × (out₁ ≡ out)

unfoldable pub step_fits : Engine → (memory : List ℕ) (kind : ℕ) (out : List ℕ) → Bool
step_fits e memory kind out = length memory == length e.start && (nat_le kind 4 && nat_le 65536 (length out))
