-- The machine keeps its memory's length and the size of its numbers.
use Rattle.std.proofs.Common.{refl, arith}
use Rattle.meaning.specs.Promise.{Steady}
use Rattle.engine.specs.Memory.{memory_size}
use Rattle.engine.specs.Own.{own}
use Rattle.engine.proofs.Start.{length_start, all_zero}

pub steady : Steady own
unfolding Steady own
steady = (let e = length_start in omega arith, all_zero memory_size, λ m ev. (refl, λ e. e))
