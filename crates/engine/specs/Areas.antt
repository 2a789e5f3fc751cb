-- Areas of a memory: what stands at a place, and the memory with something else there.
use Rattle.std.specs.Prelude.{ℕ, ◌%◌, ◌^◌, List, ◌++◌, length, take, drop}
use Rattle.meaning.specs.Words.{each}

abbrev pub part : List ℕ → ℕ → ℕ → List ℕ
part m a n = take n (drop a m)

abbrev pub over : List ℕ → ℕ → List ℕ → List ℕ
over m a xs = take a m ++ (xs ++ drop (length xs) (drop a m))

-- numbers of 64 bits
abbrev pub cut64 : List ℕ → List ℕ
cut64 xs = each (λ x. x % 2 ^ 64) xs

-- the same in a memory that never grows, nor do its numbers: what does not fit is cut
unfoldable pub put : List ℕ → ℕ → List ℕ → List ℕ
put m a xs = take (length m) (over m a (cut64 xs))
