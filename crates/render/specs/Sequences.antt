-- The control sequences that a viewer's terminal is sent.
use Rattle.std.specs.Prelude.{ℕ, ◌+◌, ◌/◌, ◌%◌, Bool, List, [], ◌∷◌, ◌++◌, ◌==◌}
use Rattle.meaning.specs.Words.{pick}
use Rattle.meaning.specs.Bytes.{in_digits}

-- CUP: ESC [ row ; col H, counted from 1
unfoldable pub cursor_position : ℕ → ℕ → List ℕ
cursor_position r c = 27 ∷ 91 ∷ (in_digits (r + 1) ++ (59 ∷ (in_digits (c + 1) ++ (72 ∷ []))))

-- one more parameter: ; n
abbrev pub parameter : ℕ → List ℕ
parameter n = 59 ∷ in_digits n

abbrev pub parameter_if : ℕ → ℕ → List ℕ
parameter_if b n = pick (b == 0) [] (parameter n)

-- SGR: ESC [ 0 .. m, all off and then the marks and colours that are wanted
unfoldable pub graphic_rendition : ℕ → ℕ → ℕ → List ℕ
graphic_rendition m f g =
    27 ∷ 91 ∷ 48 ∷ (parameter_if (m % 2) 1 ++ (parameter_if (m / 2 % 2) 4 ++ (parameter_if (m / 4 % 2) 7 ++ (parameter (30 + f) ++ (parameter (40 + g) ++ (109 ∷ []))))))

-- DECTCEM: ESC [ ? 25 h or l
abbrev pub cursor_visible : Bool → List ℕ
cursor_visible b = 27 ∷ 91 ∷ 63 ∷ 50 ∷ 53 ∷ pick b 104 108 ∷ []
