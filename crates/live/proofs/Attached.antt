-- What the plain glass does when somebody attaches, case by case.
use Rattle.std.proofs.Common.{◌≡◌, ℕ, suc, ◌-◌, true, false, eqb, List, [], ◌∷◌, Some, None, refl}
use Rattle.std.proofs.lemmas.Bool.{eq-eqb}
use Rattle.meaning.specs.Screen.{fresh, fitted}
use Rattle.meaning.specs.Panes.{Rect, rect, attach, start, sized, turn, turn_of, settled, fit_places, places, pane_wide, pane_high, as_large}
use Rattle.meaning.specs.Promise.{detaching}
use Rattle.layout.specs.Window.{one_pane}
use Rattle.machine.specs.States.{terminal_in, glass_of}
use Rattle.machine.specs.declared.state.Held.{Held}
use Rattle.machine.specs.declared.state.Machine.{Machine}

-- all but the last row
abbrev pub room_of : ℕ → ℕ → Rect
room_of w h = rect 0 0 w (h - 1)

self : (n : ℕ) → eqb n n ≡ true
self n = eq-eqb n n refl

pub on_first : (x : Machine) (m : List ℕ) (w h : ℕ) → x.pane ≡ None
    → turn detaching (glass_of x m) (attach w h)
    ≡ turn_of (one_pane w h x.next (fresh (pane_wide (room_of w h)) (pane_high (room_of w h))) (suc x.next) false) (start x.next (pane_wide (room_of w h)) (pane_high (room_of w h)) ∷ [])
unfolding turn settled fit_places places
on_first x m w h e = rw e (simp (self x.next, self (pane_wide (room_of w h)), self (pane_high (room_of w h))))

pub on_same : (x : Machine) (p : Held) (m : List ℕ) (w h : ℕ) → x.pane ≡ Some p → as_large (room_of w h) (terminal_in p.terminal m) ≡ true
    → turn detaching (glass_of x m) (attach w h) ≡ turn_of (one_pane w h p.id (terminal_in p.terminal m) x.next false) []
unfolding turn settled fit_places places
on_same x p m w h e a = rw e (simp (self p.id, a))

pub on_other : (x : Machine) (p : Held) (m : List ℕ) (w h : ℕ) → x.pane ≡ Some p → as_large (room_of w h) (terminal_in p.terminal m) ≡ false
    → turn detaching (glass_of x m) (attach w h)
    ≡ turn_of (one_pane w h p.id (fitted (terminal_in p.terminal m) (pane_wide (room_of w h)) (pane_high (room_of w h))) x.next false) (sized p.id (pane_wide (room_of w h)) (pane_high (room_of w h)) ∷ [])
unfolding turn settled fit_places places
on_other x p m w h e a = rw e (simp (self p.id, a))
