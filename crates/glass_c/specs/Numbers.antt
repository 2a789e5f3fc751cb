-- The machine's answer as two numbers, and a step that gives them.
use Rattle.std.specs.Prelude.{◌≡◌, List, [], ℕ, ◌<◌, length, set}
use Rattle.meaning.specs.Entry.{StepSays, step_fits}
use Rattle.meaning.specs.declared.answer.Told.{Told}
use Rattle.meaning.specs.declared.answer.Told.TheVariants.{Write, Send, Start, Size, Stop, Leave, Over, Wait, No}
use Rattle.engine.specs.Detaching.{detaching_machine}

-- the number of a case, and its value
abbrev pub Numbered : Told → ℕ → ℕ → Type 0
Numbered (No n) r v = (r ≡ 0) × (v ≡ 0)
Numbered (Write n) r v = (r ≡ 1) × (v ≡ n)
Numbered (Send n) r v = (r ≡ 2) × (v ≡ n)
Numbered (Start n) r v = (r ≡ 3) × (v ≡ n)
Numbered (Size n) r v = (r ≡ 4) × (v ≡ n)
Numbered (Stop n) r v = (r ≡ 5) × (v ≡ n)
Numbered Leave r v = (r ≡ 6) × (v ≡ 0)
Numbered Over r v = (r ≡ 7) × (v ≡ 0)
Numbered Wait r v = (r ≡ 8) × (v ≡ 0)

-- the answer of a step is in r and in the first place of the row for its value
pub record Stepped (m : List ℕ) (kind a b : ℕ) (bs ys vs : List ℕ) (r : ℕ) (m₁ ys₁ vs₁ : List ℕ) : Type 0 where
  pub told : Told
  pub value : ℕ
  pub says : StepSays detaching_machine m kind a b bs ys (step_fits detaching_machine m kind ys) told m₁ ys₁
  pub numbered : Numbered told r value
  pub put : vs₁ ≡ set vs 0 value

-- without room for the value 0 is answered and nothing changes
pub record Steps (m : List ℕ) (kind a b : ℕ) (bs ys vs : List ℕ) (r : ℕ) (m₁ ys₁ vs₁ : List ℕ) : Type 0 where
  pub done : 0 < length vs → Stepped m kind a b bs ys vs r m₁ ys₁ vs₁
  pub no_room : vs ≡ [] → (r ≡ 0) × (m₁ ≡ m) × (ys₁ ≡ ys) × (vs₁ ≡ vs)
