-- What a control function does to a screen.
use Rattle.std.specs.Prelude.{◌≡◌, ℕ, ◌≤◌, ◌+◌, length}
use Rattle.meaning.specs.Screen.{Term}
use Rattle.terminal.specs.Answer.{Behind, said}
use Rattle.terminal.specs.Terms.{term_on}
use Rattle.terminal.specs.declared.screen.Screen.{Screen}

-- the terminal with its cells and what it has answered
abbrev pub state_of : Screen → Term
state_of s = term_on s.term s.cells.now (said s.answer.now)

-- the terminal has become f of itself, in the same lent memory, and nothing is answered
pub record Does (old new : Screen) (f : Term → Term) : Type 0 where
  pub term : state_of new ≡ f (state_of old)
  pub same_row : new.cells.ghost_name ≡ old.cells.ghost_name
  pub same_answer : new.answer ≡ old.answer

-- there is room for so many bytes more
abbrev pub HasRoom : ℕ → Screen → Type 0
HasRoom most s = s.answer.now.len + most ≤ length s.answer.now.bytes.now

-- the terminal has become f of itself, in the same lent memory, and at most so many bytes are answered
pub record Says (most : ℕ) (old new : Screen) (f : Term → Term) : Type 0 where
  pub term : state_of new ≡ f (state_of old)
  pub same_row : new.cells.ghost_name ≡ old.cells.ghost_name
  pub answer : Behind most old.answer.now new.answer.now
  pub same_answer : new.answer.ghost_name ≡ old.answer.ghost_name
