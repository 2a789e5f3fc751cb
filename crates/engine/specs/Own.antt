-- A machine that keeps its memory and waits, whatever comes: the steps of crate glass. The one that runs is in Detaching.
use Rattle.meaning.specs.Words.{so_many}
use Rattle.meaning.specs.Promise.{Engine, wait}
use Rattle.engine.specs.Memory.{memory_size}

unfoldable pub own : Engine
own = record { start = so_many memory_size 0; step = λ m ev. record { memory = m; act = wait } }
