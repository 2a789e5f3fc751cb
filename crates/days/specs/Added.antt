-- What an append leaves.
use Rattle.std.specs.Prelude.{◌≡◌, ℕ, List, ◌++◌}

pub record Added (old new bytes : List ℕ) : Type 0 where
  pub all : new ≡ old ++ bytes
