-- What a place that a cursor may have stands for.
use Rattle.std.specs.Prelude.{true, Option, Some, None}
use Rattle.meaning.specs.Picture.{Spot, nowhere}
use Rattle.grid.specs.declared.size.Place.{Place}

-- none is a hidden cursor, in the first place
abbrev pub spot_from : Option Place → Spot
spot_from None = nowhere
spot_from (Some p) = record { shown = true; row = p.row; col = p.col }
