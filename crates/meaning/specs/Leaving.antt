-- Leaving and coming back: after any time in which nobody looks, the first picture is the plain glass's.
use Rattle.std.specs.Prelude.{◌≡◌, ℕ, suc, ◌+◌, ◌*◌, ◌≤◌, Bool, true, not, ◌&&◌, List, [], ◌∷◌, length}
use Rattle.meaning.specs.Words.{every}
use Rattle.meaning.specs.Screen.{Term, fresh}
use Rattle.meaning.specs.Panes.{Glass, Event, attach, turn, at_first}
use Rattle.meaning.specs.Picture.{picture, differs}
use Rattle.meaning.specs.Promise.{Engine, Ran, run_of, Shows, proper_event}

-- the plain glass after things have come
unfoldable pub glass_after : (ℕ → Bool) → Glass → List Event → Glass
glass_after known g [] = g
glass_after known g (ev ∷ evs) = glass_after known (turn known g ev).next evs

-- nobody looks, before each of these things and after the last
unfoldable pub nobody_looks : (ℕ → Bool) → Glass → List Event → Bool
nobody_looks known g [] = not g.attached
nobody_looks known g (ev ∷ evs) = not g.attached && nobody_looks known (turn known g ev).next evs

-- told these things one after the other, the machine comes to wait each time, and each of its runs is as asked for; then P holds of its memory, the plain glass and
-- the viewer's screen
unfoldable pub Through : (Ran → Type 0) → (ℕ → Bool) → Engine → List ℕ → Glass → Term → List Event → (List ℕ → Glass → Term → Type 0) → Type 0
Through Q known e m g t [] P = P m g t
Through Q known e m g t (ev ∷ evs) P =
    (n : ℕ)
    × ((run_of known e n m g t ev).end ≡ 0)
    × Q (run_of known e n m g t ev)
    × Through Q known e (run_of known e n m g t ev).memory (turn known g ev).next (run_of known e n m g t ev).screen evs P

-- nothing is asked of a run; or that nothing was sent
abbrev pub Any : Ran → Type 0
Any r = r.end ≡ r.end

abbrev pub Silent : Ran → Type 0
Silent r = r.bytes ≡ 0

-- whoever attaches with this size sees the picture, for no more bytes than it takes from a fresh screen
unfoldable pub Seen : (ℕ → Bool) → Engine → ℕ → ℕ → List ℕ → Glass → Term → Type 0
Seen known e w h m g t =
    (n : ℕ)
    × ((run_of known e n m g t (attach w h)).end ≡ 0)
    × Shows (turn known g (attach w h)).next (run_of known e n m g t (attach w h)).screen
    × ((run_of known e n m g t (attach w h)).bytes ≤ 64 + 32 * differs (fresh w h).rows (picture (turn known g (attach w h)).next))

-- whatever came before, and whatever comes while nobody looks: nothing is sent then, and nothing is lost
unfoldable pub ComesBack : (ℕ → Bool) → Engine → Type 0
ComesBack known e =
    (before away : List Event) (w h : ℕ) → length before + suc (length away) ≤ 4294967296 → every proper_event before ≡ true → every proper_event away ≡ true → proper_event (attach w h) ≡ true
    → nobody_looks known (glass_after known at_first before) away ≡ true
    → Through Any known e e.start at_first (fresh 1 1) before (λ m g t. Through Silent known e m g t away (Seen known e w h))
