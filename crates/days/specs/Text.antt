-- Escaped text: how bytes are printed, how text is read, and which texts are canonical.
use Rattle.std.specs.Prelude.{◌≡◌, ℕ, ◌+◌, ◌-◌, ◌*◌, ◌/◌, ◌%◌, ◌<◌, Bool, true, false, not, ◌&&◌, ltb, ◌⊎◌, List, [], ◌∷◌, ◌++◌, Some, None, vec_items, Option, Result, Vec, MatchResult, ◌==◌, nat_le, nat_lt}
use Rattle.std.specs.declared.alloc.Global.{Global}
use Rattle.days.specs.declared.fault.Fault.{Fault}
use Rattle.days.specs.declared.fault.Fault.TheVariants.{Memory, BadText}
use Rattle.meaning.specs.Words.{pick, or, every}
use Rattle.days.specs.declared.mode.Mode.{Mode}
use Rattle.days.specs.declared.mode.Mode.TheVariants.{Plain, Slash, Hex, Digit, Bad}

-- bytes that can be seen, and the blank
abbrev pub is_printable : ℕ → Bool
is_printable b = nat_le 32 b && nat_le b 126

-- the lower-case digit of a number below 16
abbrev pub digit_of_hex : ℕ → ℕ
digit_of_hex d = pick (nat_lt d 10) (48 + d) (87 + d)

-- the canonical form of one byte
abbrev pub escaped_byte : ℕ → List ℕ
escaped_byte b =
    pick (or (b == 34) (b == 92)) (92 ∷ b ∷ []) (pick (is_printable b) (b ∷ []) (92 ∷ 120 ∷ digit_of_hex (b / 16) ∷ digit_of_hex (b % 16) ∷ []))

unfoldable pub escaped : List ℕ → List ℕ
escaped [] = []
escaped (b ∷ bs) = escaped_byte b ++ escaped bs

abbrev pub is_lower_hex : ℕ → Bool
is_lower_hex c = or (nat_le 48 c && nat_le c 57) (nat_le 97 c && nat_le c 102)

abbrev pub is_hex : ℕ → Bool
is_hex c = or (is_lower_hex c) (nat_le 65 c && nat_le c 70)

-- the value of a digit of either case
abbrev pub value_of_hex : ℕ → ℕ
value_of_hex c = pick (nat_le c 57) (c - 48) (pick (nat_le c 70) (c - 55) (c - 87))

abbrev pub is_short_escape : ℕ → Bool
is_short_escape c = or (c == 34) (or (c == 92) (or (c == 101) (or (c == 110) (or (c == 114) (c == 116)))))

-- the byte that a backslash and one more byte stand for: \e, \n, \r and \t by name, \" and \\ for themselves
abbrev pub escape_value : ℕ → ℕ
escape_value c = pick (c == 101) 27 (pick (c == 110) 10 (pick (c == 114) 13 (pick (c == 116) 9 c)))

-- reading one more byte: an unescaped quote, a byte that cannot be seen and an unknown escape are refused
abbrev pub mode_after : Mode → ℕ → Mode
mode_after Plain c = pick (c == 92) Slash (pick (is_printable c && not (c == 34)) Plain Bad)
mode_after Slash c = pick (is_short_escape c) Plain (pick (c == 120) Hex Bad)
mode_after Hex c = pick (is_hex c) (Digit (value_of_hex c)) Bad
mode_after (Digit v) c = pick (is_hex c) Plain Bad
mode_after Bad c = Bad

-- what that byte adds to the bytes read
abbrev pub bytes_at : Mode → ℕ → List ℕ
bytes_at Plain c = pick (c == 92) [] (c ∷ [])
bytes_at Slash c = pick (is_short_escape c) (escape_value c ∷ []) []
bytes_at Hex c = []
bytes_at (Digit v) c = pick (is_hex c) ((16 * v + value_of_hex c) ∷ []) []
bytes_at Bad c = []

pub record Reading : Type 0 where
  pub mode : Mode
  pub bytes : List ℕ

abbrev pub read_byte : Reading → ℕ → Reading
read_byte r c = record { mode = mode_after r.mode c; bytes = r.bytes ++ bytes_at r.mode c }

unfoldable pub read_all : Reading → List ℕ → Reading
read_all r [] = r
read_all r (c ∷ cs) = read_all (read_byte r c) cs

abbrev pub is_plain : Mode → Bool
is_plain Plain = true
is_plain Slash = false
is_plain Hex = false
is_plain (Digit v) = false
is_plain Bad = false

-- a text must not end within an escape
abbrev pub whole_text : Reading → Option (List ℕ)
whole_text r = pick (is_plain r.mode) (Some r.bytes) None

abbrev pub start : Reading
start = record { mode = Plain; bytes = [] }

abbrev pub unescaped : List ℕ → Option (List ℕ)
unescaped cs = whole_text (read_all start cs)

-- the canonical texts: no other escapes than \", \\ and \x, lower-case digits, and \x only for bytes that cannot be seen
abbrev pub canonical_after : Mode → ℕ → Mode
canonical_after Plain c = pick (c == 92) Slash (pick (is_printable c && not (c == 34)) Plain Bad)
canonical_after Slash c = pick (or (c == 34) (c == 92)) Plain (pick (c == 120) Hex Bad)
canonical_after Hex c = pick (is_lower_hex c) (Digit (value_of_hex c)) Bad
canonical_after (Digit v) c = pick (is_lower_hex c && not (is_printable (16 * v + value_of_hex c))) Plain Bad
canonical_after Bad c = Bad

unfoldable pub canonical_from : Mode → List ℕ → Bool
canonical_from m [] = is_plain m
canonical_from m (c ∷ cs) = canonical_from (canonical_after m c) cs

abbrev pub canonical : List ℕ → Bool
canonical cs = canonical_from Plain cs

abbrev pub all_bytes : List ℕ → Bool
all_bytes bs = every (λ b. ltb b 256) bs

-- what is printed is read back
abbrev pub ReadBack : List ℕ → Type 0
ReadBack bs = all_bytes bs ≡ true → unescaped (escaped bs) ≡ Some bs

-- what is read from a canonical text and printed again is that text
abbrev pub PrintedAgain : List ℕ → List ℕ → Type 0
PrintedAgain cs bs = canonical cs ≡ true → unescaped cs ≡ Some bs → escaped bs ≡ cs

-- the value of a first digit
abbrev pub DigitFits : Mode → Type 0
DigitFits Plain = Unit {0}
DigitFits Slash = Unit {0}
DigitFits Hex = Unit {0}
DigitFits (Digit v) = v < 16
DigitFits Bad = Unit {0}

-- what a reader of text answers: the text, or that it is bad, unless memory fails
abbrev pub TextRead : Result (Vec ℕ Global) Fault → Option (List ℕ) → Type 0
TextRead r o = MatchResult r (λ v. o ≡ Some (vec_items v)) (λ e. (e ≡ Memory) ⊎ ((e ≡ BadText) × (o ≡ None)))
