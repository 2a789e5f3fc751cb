-- The machine for one window with one pane, as a definition over its memory: of the keys after the prefix d is known, and the prefix itself.
use Rattle.meaning.specs.Words.{so_many}
use Rattle.meaning.specs.Promise.{Engine, detaching}
use Rattle.engine.specs.State.{machine_by, taking}
use Rattle.engine.specs.Memory.{memory_size, memory_fits, decode, encode}

unfoldable pub detaching_machine : Engine
detaching_machine = machine_by (taking detaching) (so_many memory_size 0) memory_fits decode encode
