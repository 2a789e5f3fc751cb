-- The machine's step on its state where there may be several panes: what comes is done, and then panes are brought to the size of their places, one in each
-- step, before anything is drawn.
use Rattle.std.specs.Prelude.{ℕ, Bool, List, [], ◌∷◌}
use Rattle.meaning.specs.Panes.{Glass, Place, Says, all_places}
use Rattle.meaning.specs.Promise.{ToldIt, comes, next, says}
use Rattle.windows.specs.Settling.{first_unfit, fit_one, size_of}
use Rattle.windows.specs.Parts.{part}
use Rattle.engine.specs.State.{View, State, Out, out, going, view_at}

-- the first place whose pane has another size: that is fitted and told; if there is none, the machine goes on
abbrev pub fit_or_go : Glass → View → List Place → Out
fit_or_go g v [] = going g v
fit_or_go g v (q ∷ qs) = out (fit_one g q) v (says (size_of q))

unfoldable pub settling : Glass → View → Out
settling g v = fit_or_go g v (first_unfit g.panes (all_places g))

-- what is said at once comes first
unfoldable pub said_or_settling : Glass → View → List Says → Out
said_or_settling g v [] = settling g v
said_or_settling g v (s ∷ ss) = out g v (says s)

unfoldable pub stepped_on : (ℕ → Bool) → State → ToldIt → Out
stepped_on known s next = settling s.glass s.view
stepped_on known s (comes ev) = said_or_settling (part known s.glass ev).next (view_at ev s.view) (part known s.glass ev).says
