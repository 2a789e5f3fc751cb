-- The memory at the start.
use Rattle.std.proofs.Common.{◌≡◌, ℕ, zero, suc, true, eqb, length, refl, ◌∙◌}
use lib.ListN.{length-replicate}
use Rattle.meaning.specs.Words.{so_many, every}
use Rattle.engine.specs.Memory.{memory_size}
use Rattle.engine.specs.State.{machine_by}
use Rattle.engine.specs.Own.{own}
use Rattle.engine.specs.Detaching.{detaching_machine}

pub memory_size_is : memory_size ≡ 238304
unfolding memory_size
memory_size_is = refl

pub length_start : length own.start ≡ 238304
unfolding own
length_start = length-replicate memory_size 0 ∙ memory_size_is

pub detaching_start : length detaching_machine.start ≡ 238304
unfolding detaching_machine machine_by
detaching_start = length-replicate memory_size 0 ∙ memory_size_is

pub all_zero : (n : ℕ) → every (λ m. eqb m 0) (so_many n 0) ≡ true
all_zero zero = refl
all_zero (suc n) = all_zero n
