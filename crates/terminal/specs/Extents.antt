-- The number by which a program names what is to be erased.
use Rattle.std.specs.Prelude.{ℕ}
use Rattle.terminal.specs.declared.edit.Extent.{Extent}
use Rattle.terminal.specs.declared.edit.Extent.TheVariants.{ToEnd, ToStart, All}

abbrev pub number_of : Extent → ℕ
number_of ToEnd = 0
number_of ToStart = 1
number_of All = 2
