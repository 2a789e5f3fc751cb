-- Layouts as rows of numbers: 0 for beside and 1 for above, each before its two parts, and a pane's number and 2 for the pane. A code tells where it ends, so that
-- those of several windows stand one behind the other.
use Rattle.std.specs.Prelude.{ℕ, zero, suc, ◌+◌, ◌-◌, List, [], ◌∷◌, ◌++◌, ◌==◌}
use Rattle.meaning.specs.Words.{pick, flat}
use Rattle.meaning.specs.Panes.{Layout, pane, beside, above, Window}

unfoldable pub code : Layout → List ℕ
code (pane i) = (i + 2) ∷ []
code (beside a b) = 0 ∷ (code a ++ code b)
code (above a b) = 1 ∷ (code a ++ code b)

-- how long the code is
unfoldable pub deep : Layout → ℕ
deep (pane i) = 1
deep (beside a b) = suc (deep a + deep b)
deep (above a b) = suc (deep a + deep b)

-- a layout read from numbers, and the numbers behind it; or none
pub data Parsed : Type 0 where
  bad : Parsed
  good : Layout → List ℕ → Parsed

abbrev pub second : (Layout → Layout → Layout) → Layout → Parsed → Parsed
second f a bad = bad
second f a (good b rest) = good (f a b) rest

abbrev pub both : (Layout → Layout → Layout) → (List ℕ → Parsed) → Parsed → Parsed
both f go bad = bad
both f go (good a rest) = second f a (go rest)

-- the first number falls with each sign, so that reading ends
unfoldable pub parse : ℕ → List ℕ → Parsed
parse zero xs = bad
parse (suc n) [] = bad
parse (suc n) (x ∷ xs) =
    pick (x == 0) (both beside (λ r. parse n r) (parse n xs)) (pick (x == 1) (both above (λ r. parse n r) (parse n xs)) (good (pane (x - 2)) xs))

-- the codes of all windows
abbrev pub windows_code : List Window → List ℕ
windows_code ws = flat (λ v. code v.layout) ws

-- so many layouts read one behind the other, or none
pub data Layouts : Type 0 where
  unread : Layouts
  are : List Layout → Layouts

abbrev pub with_first : Layout → Layouts → Layouts
with_first l unread = unread
with_first l (are ls) = are (l ∷ ls)

abbrev pub then_read : (List ℕ → Layouts) → Parsed → Layouts
then_read go bad = unread
then_read go (good l rest) = with_first l (go rest)

-- no code is longer than 64 numbers
unfoldable pub parse_windows : ℕ → List ℕ → Layouts
parse_windows zero xs = are []
parse_windows (suc n) xs = then_read (λ r. parse_windows n r) (parse 64 xs)
