-- How many cells the panes' terminals have: at rest, and while they are brought to the size of their places.
use Rattle.std.specs.Prelude.{◌≡◌, ℕ, ◌+◌, ◌*◌, ◌≤◌, Bool, true, List, [], ◌∷◌}
use Rattle.meaning.specs.Words.{pick}
use Rattle.meaning.specs.Panes.{Glass, Pane, Place, Event, pane_wide, pane_high, all_places}
use Rattle.meaning.specs.Promise.{proper_event}
use Rattle.windows.specs.Invariants.{Sane}
use Rattle.windows.specs.Settling.{unfit, AtRest, by_steps}
use Rattle.windows.specs.Parts.{part}

abbrev pub added_up : {A : Type 0} → (A → ℕ) → List A → ℕ
added_up f [] = 0
added_up f (x ∷ xs) = f x + added_up f xs

-- the cells of the panes as they are, and as their places ask for
abbrev pub pane_cells : List Pane → ℕ
pane_cells ps = added_up (λ p. p.term.high * p.term.wide) ps

abbrev pub cells_in : Place → ℕ
cells_in q = pane_high q.rect * pane_wide q.rect

abbrev pub place_cells : List Place → ℕ
place_cells qs = added_up cells_in qs

-- the cells that are still to come while sizes change: those of all places whose pane has another size
abbrev pub cells_to_come : List Pane → List Place → ℕ
cells_to_come ps qs = added_up (λ q. pick (unfit ps q) (cells_in q) 0) qs

-- the viewer's screen is at most 200 x 60
pub record SmallScreen (g : Glass) : Type 0 where
  pub columns : g.wide ≤ 200
  pub lines : g.high ≤ 60

-- at rest, the panes have the cells of their places, and these are at most 99,200
unfoldable pub CellsAtRest : Type 0
CellsAtRest =
    (g : Glass) → Sane g → SmallScreen g →
    (place_cells (all_places g) ≤ 99200) × (AtRest g → pane_cells g.panes ≡ place_cells (all_places g))

-- from rest, a turn done one pane at a time never has more than twice as many
unfoldable pub CellsWhileSettling : Type 0
CellsWhileSettling =
    (known : ℕ → Bool) (g : Glass) (ev : Event) → Sane g → AtRest g → SmallScreen g → proper_event ev ≡ true →
    SmallScreen (part known g ev).next
    × ((n : ℕ) → pane_cells (by_steps n (part known g ev).next (part known g ev).says).next.panes ≤ 198400)
