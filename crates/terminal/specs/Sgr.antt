-- One number of SGR, part by part.
use Rattle.std.specs.Prelude.{ℕ, ◌+◌, ◌-◌, ◌&&◌, ◌==◌, nat_le}
use Rattle.meaning.specs.Words.{pick, or}
use Rattle.meaning.specs.Screen.{bit_on, bit_off}

abbrev pub marks_then : ℕ → ℕ → ℕ
marks_then m n =
    pick (n == 0) 0 (pick (n == 1) (bit_on 1 m) (pick (n == 4) (bit_on 2 m) (pick (n == 7) (bit_on 4 m)
    (pick (n == 22) (bit_off 1 m) (pick (n == 24) (bit_off 2 m) (pick (n == 27) (bit_off 4 m) m))))))

-- eight colours from `first` on, and the default, which 0 sets too
abbrev pub colour_then : ℕ → ℕ → ℕ → ℕ
colour_then first c n = pick (nat_le first n && nat_le n (first + 7)) (n - first) (pick (or (n == first + 9) (n == 0)) 9 c)
