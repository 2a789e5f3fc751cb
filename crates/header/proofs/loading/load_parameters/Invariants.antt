use Rattle.std.proofs.Common.{◌≡◌, length, take, drop}
use Rattle.header.specs.Header.{parameters_fit}
use Rattle.header.proofs.loading.load_parameters.Given as goal

abbrev pub invariant-loop-k : goal.invariant-loop-k
invariant-loop-k l = (parameters_fit (drop l.k l.n-items) ≡ parameters_fit l.n-items) × (take l.k l.list ≡ take l.k l.n-items) × (length l.list ≡ 16)
