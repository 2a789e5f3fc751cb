-- A step of the machine that runs.
use Rattle.std.specs.Prelude.{◌≡◌, ℕ, List}
use Rattle.meaning.specs.Promise.{ToldIt}
use Rattle.meaning.specs.Entry.{ActTold}
use Rattle.meaning.specs.declared.answer.Told.{Told}
use Rattle.engine.specs.Detaching.{detaching_machine}

-- a step of the machine that was told t
pub record Goes (t : ToldIt) (m m₁ : List ℕ) (r : Told) (out out₁ : List ℕ) : Type 0 where
  pub memory : m₁ ≡ (detaching_machine.step m t).memory
  pub act : ActTold (detaching_machine.step m t).act r out out₁
