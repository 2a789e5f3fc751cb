-- Bytes added to a lent row.
use Rattle.std.specs.Prelude.{◌≡◌, ℕ, ◌+◌, List, ◌++◌, length, take, drop}
use Rattle.output.specs.declared.Buffer.{Buffer}

-- the first n of old counted, and now the first r of new do: these bytes have come behind them, and the rest is kept
pub record Added (n : ℕ) (old : List ℕ) (r : ℕ) (new bytes : List ℕ) : Type 0 where
  pub said : take r new ≡ take n old ++ bytes
  pub kept : drop r new ≡ drop r old
  pub far : r ≡ n + length bytes

-- these bytes have come behind what the buffer held, in the same lent row
pub record Adds (old new : Buffer) (bytes : List ℕ) : Type 0 where
  pub added : Added old.len old.bytes.now new.len new.bytes.now bytes
  pub long : length new.bytes.now ≡ length old.bytes.now
  pub same_row : new.bytes.ghost_name ≡ old.bytes.ghost_name

-- nothing has changed, and the lent row is the same
pub record Unchanged (old new : Buffer) : Type 0 where
  pub bytes : new.bytes.now ≡ old.bytes.now
  pub count : new.len ≡ old.len
  pub same_row : new.bytes.ghost_name ≡ old.bytes.ghost_name
