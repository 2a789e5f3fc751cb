-- What each byte does to a terminal: control characters, escape sequences, control sequences and control strings.
use Rattle.std.specs.Prelude.{ℕ, zero, suc, ◌+◌, ◌-◌, ◌*◌, ◌/◌, ◌%◌, Bool, true, false, not, ◌&&◌, List, [], ◌∷◌, ◌++◌, take, ◌==◌, nat_le, nat_lt, slice_index}
use Rattle.meaning.specs.Words.{pick, or, smaller, larger, none_of}
use Rattle.meaning.specs.Screen.{Term, Reading, ground_state, escape, sequence, passed, string, string_end, fresh, at, with_reading, with_answer, with_modes, with_style, row_on, row_back, change_row, opened, closed, wiped, printed, goes_to, goes_up, goes_down, wipe_row, wipe_all, lines_in, lines_out, up_by, down_by, region, styled, save, restore}

-- control characters: BS, HT to the next multiple of 8, CR; LF, VT and FF
abbrev pub control : Term → ℕ → Term
control t c =
    pick (c == 8) (at t t.row (t.col - 1))
    (pick (c == 9) (at t t.row (smaller (t.wide - 1) (8 * suc (t.col / 8))))
    (pick (c == 13) (at t t.row 0) (pick (nat_le 10 c && nat_le c 12) (row_on t) t)))

-- the kth parameter of a sequence, 1 if it is 0 or not there
abbrev pub one_of : List ℕ → ℕ → ℕ
one_of ps k = larger 1 (slice_index ps k)

-- a number below 10^10 in decimal
unfoldable pub digits : ℕ → ℕ → List ℕ → List ℕ
digits zero m ds = ds
digits (suc n) m ds = pick (nat_lt m 10) ((48 + m) ∷ ds) (digits n (m / 10) ((48 + m % 10) ∷ ds))

abbrev pub in_digits : ℕ → List ℕ
in_digits n = digits 10 n []

-- cursor position report (CPR): row and column from 1, the row counted as CUP counts it
abbrev pub place_told : Term → List ℕ
place_told t = 27 ∷ 91 ∷ in_digits (suc (t.row - pick t.origin t.top 0)) ++ 59 ∷ in_digits (suc t.col) ++ 82 ∷ []

-- device status report (DSR): 6 asks for the cursor's place, 5 whether all is well
abbrev pub answers : Term → ℕ → Term
answers t k = pick (k == 6) (with_answer t (t.answer ++ place_told t)) (pick (k == 5) (with_answer t (t.answer ++ 27 ∷ 91 ∷ 48 ∷ 110 ∷ [])) t)

-- one mode set or reset: 4 insert; of the private ones 6 origin, 7 autowrap, 25 cursor visible
abbrev pub mode_one : Bool → Bool → Term → ℕ → Term
mode_one v private t n =
    pick private
    (pick (n == 6) (goes_to (with_modes t t.inserts t.wraps v t.shown) 0 0)
    (pick (n == 7) (with_modes t t.inserts v t.origin t.shown) (pick (n == 25) (with_modes t t.inserts t.wraps t.origin v) t)))
    (pick (n == 4) (with_modes t v t.wraps t.origin t.shown) t)

-- all numbers of one SM or RM, in order
unfoldable pub modes : Bool → Bool → Term → List ℕ → Term
modes v private t [] = t
modes v private t (n ∷ ns) = modes v private (mode_one v private t n) ns

-- a control sequence by its final byte
abbrev pub done_sequence : Term → Bool → List ℕ → ℕ → Term
done_sequence t private ps c =
    pick private (pick (c == 104) (modes true true t ps) (pick (c == 108) (modes false true t ps) t))
    (pick (c == 65) (goes_up t (one_of ps 0)) (pick (c == 66) (goes_down t (one_of ps 0))
    (pick (c == 67) (at t t.row (smaller (t.wide - 1) (t.col + one_of ps 0))) (pick (c == 68) (at t t.row (t.col - one_of ps 0))
    (pick (c == 69) (at (goes_down t (one_of ps 0)) (goes_down t (one_of ps 0)).row 0) (pick (c == 70) (at (goes_up t (one_of ps 0)) (goes_up t (one_of ps 0)).row 0)
    (pick (c == 71) (at t t.row (smaller (t.wide - 1) (one_of ps 0 - 1))) (pick (c == 100) (goes_to t (one_of ps 0 - 1) t.col)
    (pick (or (c == 72) (c == 102)) (goes_to t (one_of ps 0 - 1) (one_of ps 1 - 1))
    (pick (c == 74) (wipe_all t (slice_index ps 0)) (pick (c == 75) (wipe_row t (slice_index ps 0))
    (pick (c == 76) (lines_in t (one_of ps 0)) (pick (c == 77) (lines_out t (one_of ps 0))
    (pick (c == 64) (change_row t (opened t.wide t.col (one_of ps 0))) (pick (c == 80) (change_row t (closed t.wide t.col (one_of ps 0)))
    (pick (c == 88) (change_row t (wiped t.col (t.col + one_of ps 0)))
    (pick (c == 83) (up_by t (one_of ps 0)) (pick (c == 84) (down_by t (one_of ps 0))
    (pick (c == 114) (region t (one_of ps 0) (slice_index ps 1)) (pick (c == 109) (with_style t (styled t.style (pick (none_of ps) (0 ∷ []) ps)))
    (pick (c == 104) (modes true false t ps) (pick (c == 108) (modes false false t ps)
    (pick (c == 110) (answers t (slice_index ps 0)) (pick (c == 115) (save t) (pick (c == 117) (restore t) t)))))))))))))))))))))))))

-- an escape sequence by its final byte: DECSC, DECRC, IND, RI, NEL, RIS
abbrev pub done_escape : Term → ℕ → Term
done_escape t c =
    pick (c == 55) (save t) (pick (c == 56) (restore t) (pick (c == 68) (row_on t) (pick (c == 77) (row_back t)
    (pick (c == 69) (at (row_on t) (row_on t).row 0) (pick (c == 99) (with_answer (fresh t.wide t.high) t.answer) t)))))

-- one more digit of a parameter, which is at most 9,999
abbrev pub add_digit : List ℕ → ℕ → List ℕ
add_digit [] d = d ∷ []
add_digit (n ∷ ns) d = smaller 9999 (10 * n + d) ∷ []

-- the parameter that has begun, or 0 if none has
abbrev pub ended : List ℕ → ℕ
ended [] = 0
ended (n ∷ ns) = n

-- up to sixteen parameters count
abbrev pub all_numbers : List ℕ → List ℕ → List ℕ
all_numbers ps now = pick (none_of ps && none_of now) [] (take 16 (ps ++ ended now ∷ []))

abbrev pub back_to_ground : Term → Term
back_to_ground t = with_reading t ground_state

-- a byte from 32 to 127 within a control sequence
abbrev pub byte_of_sequence : Term → Bool → List ℕ → List ℕ → ℕ → Term
byte_of_sequence t private ps now c =
    pick (nat_le 48 c && nat_le c 57) (with_reading t (sequence private ps (add_digit now (c - 48))))
    (pick (c == 59) (with_reading t (sequence private (take 16 (ps ++ ended now ∷ [])) []))
    (pick (c == 63) (pick (none_of ps && (none_of now && not private)) (with_reading t (sequence true [] [])) (with_reading t passed))
    (pick (nat_le 64 c) (done_sequence (back_to_ground t) private (all_numbers ps now) c) (with_reading t passed))))

-- a byte from 32 on, by the parser's state
abbrev pub byte_read : Term → Reading → ℕ → Term
byte_read t ground_state c = printed t (pick (nat_le 128 c) 63 c)
byte_read t escape c =
    pick (c == 91) (with_reading t (sequence false [] [])) (pick (c == 93) (with_reading t string) (pick (nat_le 32 c && nat_le c 47) (with_reading t passed) (done_escape (back_to_ground t) c)))
byte_read t (sequence private ps now) c = pick (nat_le 128 c) (with_reading t passed) (byte_of_sequence t private ps now c)
byte_read t passed c = pick (nat_le 64 c && nat_le c 126) (back_to_ground t) t
byte_read t string c = t
byte_read t string_end c = pick (c == 92) (back_to_ground t) (with_reading t string)

abbrev pub is_string : Reading → Bool
is_string ground_state = false
is_string escape = false
is_string (sequence private ps now) = false
is_string passed = false
is_string string = true
is_string string_end = true

-- a byte below 32: ESC begins anew, CAN and SUB give up; the others are done wherever they stand, but not in a control string, which BEL ends
unfoldable pub low_byte : Term → ℕ → Term
low_byte t c =
    pick (c == 27) (with_reading t (pick (is_string t.reading) string_end escape))
    (pick (is_string t.reading) (pick (c == 7) (back_to_ground t) (with_reading t string))
    (pick (or (c == 24) (c == 26)) (back_to_ground t) (control t c)))

-- one byte; DEL is nothing
unfoldable pub byte : Term → ℕ → Term
byte t c = pick (nat_lt c 32) (low_byte t c) (pick (c == 127) t (byte_read t t.reading c))

-- bytes, one after the other
unfoldable pub written : Term → List ℕ → Term
written t [] = t
written t (c ∷ cs) = written (byte t c) cs
