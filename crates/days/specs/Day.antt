-- A whole day: its lines, what each says, and which is the first bad one.
use Rattle.std.specs.Prelude.{◌≡◌, ℕ, ◌-◌, ◌≤◌, true, ◌⊎◌, List, [], ◌∷◌, ◌++◌, map, length, take, is_ok, Ok, Err, vec_items, Result, Vec, MatchResult, ◌==◌, slice_index_or}
use Rattle.std.specs.declared.alloc.Global.{Global}
use Rattle.meaning.specs.Words.{pick, none_of, every}
use Rattle.days.specs.declared.fault.BadDay.{BadDay}
use Rattle.days.specs.declared.fault.Fault.{Fault}
use Rattle.days.specs.declared.fault.Fault.TheVariants.{Memory}
use Rattle.days.specs.declared.line.Line.{Line}
use Rattle.days.specs.Line.{Thing, nothing, thing_of, line_of}

-- the lines of a text, of whose first line some has come; byte 10 ends a line, and the last need not have it
unfoldable pub lines_from : List ℕ → List ℕ → List (List ℕ)
lines_from begun [] = pick (none_of begun) [] (begun ∷ [])
lines_from begun (c ∷ cs) = pick (c == 10) (begun ∷ lines_from [] cs) (lines_from (begun ++ c ∷ []) cs)

abbrev pub lines_of : List ℕ → List (List ℕ)
lines_of cs = lines_from [] cs

-- what each line says
abbrev pub readings : List ℕ → List (Result Thing Fault)
readings cs = map line_of (lines_of cs)

abbrev pub said : Line → Result Thing Fault
said l = Ok (thing_of l)

-- e names the first line that is bad, or at which memory failed; all before it are good
pub record BadLine (rs : List (Result Thing Fault)) (e : BadDay) : Type 0 where
  pub counted : 1 ≤ e.line
  pub within : e.line ≤ length rs
  pub before : every is_ok (take (e.line - 1) rs) ≡ true
  pub bad : (e.fault ≡ Memory) ⊎ (slice_index_or rs (e.line - 1) (Ok nothing) ≡ Err e.fault)

-- every line in order, or the first bad one
abbrev pub DayRead : Result (Vec Line Global) BadDay → List ℕ → Type 0
DayRead r cs = MatchResult r (λ v. readings cs ≡ map said (vec_items v)) (λ e. BadLine (readings cs) e)

-- one more line is kept, or refused as its definition says unless memory fails
abbrev pub Kept : {X : Type 0} → Result X Fault → List Line → List Line → Result Thing Fault → Type 0
Kept r old new o = MatchResult r (λ _. map said new ≡ map said old ++ o ∷ []) (λ e. (e ≡ Memory) ⊎ (o ≡ Err e))
