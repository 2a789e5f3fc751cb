-- What a line of a day brings, and how it happens one thing after another.
use Rattle.std.specs.Prelude.{◌≡◌, Bool, true, false, ◌⊎◌, List, [], ◌∷◌, map}
use Rattle.meaning.specs.Panes as panes
use Rattle.meaning.specs.Panes.{Event}
use Rattle.days.specs.Line.{Thing, look, keys, sent, gone, show, nothing}

-- the things that come with a line, in order
abbrev pub events_of : Thing → List Event
events_of (look w h) = panes.attach w h ∷ []
events_of (keys cs) = map panes.key cs
events_of (sent p bs) = panes.from p bs ∷ []
events_of (gone p) = panes.gone p ∷ []
events_of show = []
events_of nothing = []

-- from s one thing after another is done, up to that with which it is over; t is what comes of them
abbrev pub Until : {S : Type 0} → (S → Event → Bool → S → Type 0) → S → List Event → Bool → S → Type 0
Until comes s [] over t = (over ≡ false) × (t ≡ s)
Until {S} comes s (e ∷ es) over t = ((over ≡ true) × comes s e true t) ⊎ ((u : S) × comes s e false u × Until comes u es over t)
