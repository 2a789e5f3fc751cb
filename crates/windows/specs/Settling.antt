-- Panes brought to the size of their places one at a time: as long as there is one that has another size, the first is fitted and told.
use Rattle.std.specs.Prelude.{◌≡◌, ℕ, zero, suc, ◌+◌, ◌≤◌, Bool, not, ◌&&◌, List, [], ◌∷◌, ◌++◌, ◌==◌}
use Rattle.meaning.specs.Words.{pick, any}
use Rattle.meaning.specs.Panes.{Glass, Place, Pane, Says, sized, Turn, turn_of, with_panes, as_large, pane_wide, pane_high, pane_fitted, all_places, settled}
use Rattle.windows.specs.Invariants.{Sane}

-- the pane is this place's, and has another size
abbrev pub misfit : Place → Pane → Bool
misfit q p = p.id == q.id && not (as_large q.rect p.term)

unfoldable pub unfit : List Pane → Place → Bool
unfit ps q = any (misfit q) ps

-- the first place whose pane has another size, if there is one
unfoldable pub first_unfit : List Pane → List Place → List Place
first_unfit ps [] = []
first_unfit ps (q ∷ qs) = pick (unfit ps q) (q ∷ []) (first_unfit ps qs)

unfoldable pub count_unfit : List Pane → List Place → ℕ
count_unfit ps [] = 0
count_unfit ps (q ∷ qs) = pick (unfit ps q) 1 0 + count_unfit ps qs

-- every pane is as large as its place
abbrev pub AtRest : Glass → Type 0
AtRest g = count_unfit g.panes (all_places g) ≡ 0

-- the pane of one place fitted, and what its program is told
abbrev pub fit_one : Glass → Place → Glass
fit_one g q = with_panes g (pane_fitted g.panes q)

abbrev pub size_of : Place → Says
size_of q = sized q.id (pane_wide q.rect) (pane_high q.rect)

abbrev pub one_step : (Glass → List Says → Turn) → Glass → List Says → List Place → Turn
one_step go g ss [] = turn_of g ss
one_step go g ss (q ∷ qs) = go (fit_one g q) (ss ++ size_of q ∷ [])

-- up to n steps
unfoldable pub by_steps : ℕ → Glass → List Says → Turn
by_steps zero g ss = turn_of g ss
by_steps (suc n) g ss = one_step (λ g₁ ss₁. by_steps n g₁ ss₁) g ss (first_unfit g.panes (all_places g))

-- 32 steps at most settle all, and then nothing is left to settle
unfoldable pub SettlesBySteps : Type 0
SettlesBySteps =
    (g : Glass) (ss : List Says) → Sane g →
    (count_unfit g.panes (all_places g) ≤ 32)
    × ((n : ℕ) → count_unfit g.panes (all_places g) ≤ n → by_steps n g ss ≡ settled g ss) × AtRest (settled g ss).next
