-- What a caller learns of an edit once it knows whether the edit fits.
use Rattle.std.proofs.Common.{◌≡◌, ℕ, Bool, true, false, List, ◌∙◌}
use Rattle.meaning.specs.Screen.{Cell}
use Rattle.grid.specs.Cells.{rows_of}
use Rattle.grid.specs.Edits.{Edited}

pub edited : {w h : ℕ} {old new : List ℕ} {fit r : Bool} {rows : List (List Cell)} → Edited w h old new fit r rows → fit ≡ true → rows_of w h new ≡ rows
edited e f = e.done (e.told ∙ f)

pub refused : {w h : ℕ} {old new : List ℕ} {fit r : Bool} {rows : List (List Cell)} → Edited w h old new fit r rows → fit ≡ false → new ≡ old
refused e f = e.kept (e.told ∙ f)
