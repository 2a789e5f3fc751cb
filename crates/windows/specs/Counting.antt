-- How often a number stands in a list, and the numbers of places, panes and windows: that panes are distinct, and which window has which, is said by counting.
use Rattle.std.specs.Prelude.{ℕ, ◌+◌, List, [], ◌∷◌, ◌==◌}
use Rattle.meaning.specs.Words.{pick, each, flat}
use Rattle.meaning.specs.Panes.{Window, Pane, Place, ids}

unfoldable pub times : ℕ → List ℕ → ℕ
times i [] = 0
times i (j ∷ js) = pick (i == j) 1 0 + times i js

abbrev pub place_ids : List Place → List ℕ
place_ids qs = each (λ q. q.id) qs

abbrev pub pane_ids : List Pane → List ℕ
pane_ids ps = each (λ p. p.id) ps

-- the numbers in the layouts of all windows
abbrev pub glass_ids : List Window → List ℕ
glass_ids vs = flat (λ v. ids v.layout) vs
