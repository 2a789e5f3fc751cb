-- The parser's next state, for bytes that change nothing else.
use Rattle.std.specs.Prelude.{ℕ, ◌-◌, Bool, true, not, ◌&&◌, List, [], ◌∷◌, ◌++◌, take, ◌==◌, nat_le}
use Rattle.meaning.specs.Words.{pick, none_of}
use Rattle.meaning.specs.Screen.{Reading, ground_state, sequence, passed, string, string_end}
use Rattle.meaning.specs.Bytes.{add_digit, ended}

-- in a control sequence, below its final bytes: a digit, a semicolon, a ? that comes first; others spoil it
abbrev pub parameter_read : Bool → List ℕ → List ℕ → ℕ → Reading
parameter_read private ps now c =
    pick (nat_le 48 c && nat_le c 57) (sequence private ps (add_digit now (c - 48)))
    (pick (c == 59) (sequence private (take 16 (ps ++ ended now ∷ [])) [])
    (pick (c == 63) (pick (none_of ps && (none_of now && not private)) (sequence true [] []) passed) passed))

-- in a control string: ESC may begin its end, BEL is one
abbrev pub string_read : ℕ → Reading
string_read c = pick (c == 27) string_end (pick (c == 7) ground_state string)
