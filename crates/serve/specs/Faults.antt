-- What is said of a fault.
use Rattle.std.specs.Prelude.{ℕ, List, codes}
use Rattle.serve.specs.declared.ended.Fault.{Fault}
use Rattle.serve.specs.declared.ended.Fault.TheVariants.{Memory, Stuck, Refused}

abbrev pub said_of : Fault → List ℕ
said_of Memory = codes "memory allocation failed"
said_of Stuck = codes "the machine does not come to wait"
said_of Refused = codes "the machine refuses its memory"
