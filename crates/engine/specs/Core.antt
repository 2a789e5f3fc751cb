-- The machine for one window with one pane, as a definition over its memory: no key after the prefix is known but the prefix itself.
use Rattle.meaning.specs.Words.{so_many}
use Rattle.meaning.specs.Promise.{Engine, core}
use Rattle.engine.specs.State.{machine_of}
use Rattle.engine.specs.Memory.{memory_size, memory_fits, decode, encode}

unfoldable pub core_machine : Engine
core_machine = machine_of core (so_many memory_size 0) memory_fits decode encode
