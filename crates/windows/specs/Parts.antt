-- A turn before panes are brought to the size of their places: what comes is done, and at most one thing is said; settling does the rest.
use Rattle.std.specs.Prelude.{◌≡◌, ℕ, suc, ◌+◌, ◌-◌, ◌%◌, ◌≤◌, Bool, true, false, not, ◌&&◌, [], ◌∷◌, ◌++◌, length, ◌==◌, nat_le, nat_lt}
use Rattle.meaning.specs.Words.{pick, or, those, none_of, put_at, larger}
use Rattle.meaning.specs.Panes.{Glass, Layout, pane, beside, above, Event, key, from, gone, attach, send, stop, leave, over, Turn, turn_of, with_panes, with_windows, with_prefix, numbered, current, all_places, settled, begin_pane, place_in, place_of_focus, large_enough, in_place, other_pane, pane_of, windows_without, new_at, on_bytes, turn, at_first}
use Rattle.windows.specs.Invariants.{Sane}
use Rattle.windows.specs.Settling.{AtRest}

abbrev pub begun_part : Glass → ℕ → Turn
begun_part g i = begin_pane (numbered g) i (place_in (all_places g) i)

abbrev pub new_window_part : Glass → Turn
new_window_part g =
    pick (or (nat_le 8 (length g.windows)) (nat_le 32 (length g.panes))) (turn_of g [])
    (begun_part (with_windows g (g.windows ++ record { layout = pane g.next; focus = g.next } ∷ []) (length g.windows)) g.next)

-- the panes f and n in two parts of one place
abbrev pub two : Bool → ℕ → ℕ → Layout
two side f n = pick side (beside (pane f) (pane n)) (above (pane f) (pane n))

abbrev pub split_part : Glass → Bool → Turn
split_part g side =
    pick (large_enough side (place_of_focus g) && nat_lt (length g.panes) 32)
    (begun_part (with_windows g (put_at g.windows g.at (record { layout = in_place (current g).layout (current g).focus (two side (current g).focus g.next); focus = g.next })) g.at) g.next)
    (turn_of g [])

abbrev pub next_window : Glass → Glass
next_window g = with_windows g g.windows (suc g.at % (larger 1 (length g.windows)))

abbrev pub previous_window : Glass → Glass
previous_window g = with_windows g g.windows ((g.at + length g.windows - 1) % (larger 1 (length g.windows)))

-- nobody looks any more
abbrev pub left : Glass → Glass
left g = record { wide = g.wide; high = g.high; attached = false; windows = g.windows; at = g.at; panes = g.panes; next = g.next; prefix = false }

unfoldable pub command_part : (ℕ → Bool) → Glass → ℕ → Turn
command_part known g c =
    pick (c == 1) (turn_of g (send (current g).focus (1 ∷ []) ∷ []))
    (pick (known c)
    (pick (c == 99) (new_window_part g)
    (pick (c == 110) (turn_of (next_window g) [])
    (pick (c == 112) (turn_of (previous_window g) [])
    (pick (c == 124) (split_part g true) (pick (c == 45) (split_part g false)
    (pick (c == 111) (turn_of (other_pane g) [])
    (pick (c == 120) (turn_of g (stop (current g).focus ∷ []))
    (pick (c == 100) (turn_of (left g) (leave ∷ []))
    (turn_of g [])))))))))
    (turn_of g []))

abbrev pub key_part : (ℕ → Bool) → Glass → ℕ → Turn
key_part known g c =
    pick g.attached
    (pick g.prefix (command_part known (with_prefix g false) c) (pick (c == 1) (turn_of (with_prefix g true) []) (turn_of g (send (current g).focus (c ∷ []) ∷ []))))
    (turn_of g [])

-- pane i and its place taken away
abbrev pub without_pane : Glass → ℕ → Glass
without_pane g i =
    with_panes (with_windows g (windows_without i g.windows) (new_at g i (windows_without i g.windows))) (those (λ p. not (p.id == i)) g.panes)

abbrev pub gone_part : Glass → ℕ → Turn
gone_part g i =
    pick (none_of (pane_of g i)) (turn_of g []) (turn_of (without_pane g i) (pick (none_of (windows_without i g.windows)) (over ∷ []) []))

-- somebody looks, on a screen of w columns and h rows
abbrev pub looked : Glass → ℕ → ℕ → Glass
looked g w h = record { wide = w; high = h; attached = true; windows = g.windows; at = g.at; panes = g.panes; next = g.next; prefix = false }

abbrev pub attach_part : Glass → ℕ → ℕ → Turn
attach_part g w h = pick (none_of g.windows) (new_window_part (looked g w h)) (turn_of (looked g w h) [])

unfoldable pub part : (ℕ → Bool) → Glass → Event → Turn
part known g (key c) = key_part known g c
part known g (from i bs) = on_bytes g i bs (pane_of g i)
part known g (gone i) = gone_part g i
part known g (attach w h) = attach_part g w h

-- from rest, a turn is its part, settled; and the part says one thing at most
unfoldable pub PartSettles : Type 0
PartSettles =
    (known : ℕ → Bool) (g : Glass) (ev : Event) →
    (length (part known g ev).says ≤ 1) × (AtRest g → turn known g ev ≡ settled (part known g ev).next (part known g ev).says)

-- nothing is left to settle at first, nor after any turn
unfoldable pub StaysAtRest : Type 0
StaysAtRest = AtRest at_first × ((known : ℕ → Bool) (g : Glass) (ev : Event) → Sane g → AtRest g → AtRest (turn known g ev).next)
