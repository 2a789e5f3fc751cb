-- The machine for up to eight windows and 32 panes, as a definition over its memory, for the keys after the prefix that are known.
use Rattle.std.specs.Prelude.{ℕ, Bool}
use Rattle.meaning.specs.Words.{so_many}
use Rattle.meaning.specs.Promise.{Engine}
use Rattle.engine.specs.State.{machine_by}
use Rattle.engine.specs.Settling.{stepped_on}
use Rattle.engine.specs.Memory.{memory_size}
use Rattle.stored.specs.Many.{many_fits, many_decode, many_encode}

unfoldable pub many_machine : (ℕ → Bool) → Engine
many_machine known = machine_by (stepped_on known) (so_many memory_size 0) many_fits many_decode many_encode
