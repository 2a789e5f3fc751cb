-- The day that a program is given. What a file or standard input holds no contract can say; what has been read of it is a day.
use Rattle.std.specs.Prelude.{◌≡◌, ℕ, List, map}
use Rattle.days.specs.declared.line.Line.{Line}
use Rattle.days.specs.Day.{readings, said}

-- there is a text, each of whose lines can be read, and these are its lines in order
pub record OfText (day : List Line) : Type 0 where
  pub text : List ℕ
  pub says : readings text ≡ map said day
