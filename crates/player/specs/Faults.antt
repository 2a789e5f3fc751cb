-- What is said of a fault, and which one a fault of serving is.
use Rattle.std.specs.Prelude.{ℕ, List, codes}
use Rattle.serve.specs.declared.ended.Fault.{Fault as ServeFault}
use Rattle.serve.specs.declared.ended.Fault.TheVariants as serving
use Rattle.player.specs.declared.fault.Fault.{Fault}
use Rattle.player.specs.declared.fault.Fault.TheVariants.{Memory, Stuck, Refused, NoSize, WrongCells, TooMany, TooLong}

abbrev pub fault_says : Fault → List ℕ
fault_says Memory = codes "no memory is left"
fault_says Stuck = codes "the machine does not come to wait"
fault_says Refused = codes "the machine refuses its memory"
fault_says NoSize = codes "a screen has 1 to 200 columns and 1 to 60 rows"
fault_says WrongCells = codes "the cells are not the screen's"
fault_says TooMany = codes "more bytes were written than are granted"
fault_says TooLong = codes "the numbers of this day are too large"

abbrev pub fault_from : ServeFault → Fault
fault_from serving.Memory = Memory
fault_from serving.Stuck = Stuck
fault_from serving.Refused = Refused
