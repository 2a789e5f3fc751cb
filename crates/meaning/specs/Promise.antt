-- A machine between people and programs, and what it promises.
use Rattle.std.specs.Prelude.{◌≡◌, ℕ, zero, suc, ◌+◌, ◌*◌, ◌≤◌, Bool, true, false, ◌&&◌, ltb, ◌⊎◌, List, [], ◌∷◌, ◌++◌, length, ◌==◌, nat_eq, nat_le, nat_lt}
use Rattle.meaning.specs.Words.{pick, every, none_of}
use Rattle.meaning.specs.Screen.{Term, fresh}
use Rattle.meaning.specs.Bytes.{written}
use Rattle.meaning.specs.Panes.{Glass, Event, key, from, gone, attach, Says, turn, at_first}
use Rattle.meaning.specs.Picture.{picture, spot, differs}

-- what the machine is told: something that comes in, or to go on
pub data ToldIt : Type 0 where
  comes : Event → ToldIt
  next : ToldIt

-- what it does: bytes to the viewer's screen, something said to programs and the world, or waiting
pub data Act : Type 0 where
  write : List ℕ → Act
  says : Says → Act
  wait : Act

pub record Step : Type 0 where
  pub memory : List ℕ
  pub act : Act

-- a machine: its memory at the start, and one step
pub record Engine : Type 0 where
  pub start : List ℕ
  pub step : List ℕ → ToldIt → Step

-- how it went: the memory and the viewer's screen afterwards, what was said, how many bytes were written, and the end: 0 waiting, 1000 still at it,
-- 1001 a fault
pub record Ran : Type 0 where
  pub memory : List ℕ
  pub screen : Term
  pub said : List Says
  pub bytes : ℕ
  pub end : ℕ

abbrev pub ran : List ℕ → Term → List Says → ℕ → ℕ → Ran
ran m t ss b e = record { memory = m; screen = t; said = ss; bytes = b; end = e }

-- at most 4,096 bytes
abbrev pub a_row : List ℕ → Bool
a_row bs = nat_le (length bs) 4096 && every (λ b. ltb b 256) bs

-- bytes may be written only while somebody looks
unfoldable pub one_act : Bool → (List ℕ → ToldIt → Term → List Says → ℕ → Ran) → Term → List Says → ℕ → List ℕ → Act → Ran
one_act looked go t ss b m (write bs) = pick (looked && a_row bs) (go m next (written t bs) ss (b + length bs)) (ran m t ss b 1001)
one_act looked go t ss b m (says s) = go m next t (ss ++ s ∷ []) b
one_act looked go t ss b m wait = ran m t ss b 0

-- up to n steps, the first with what came, then going on, until the machine waits
unfoldable pub runs : Bool → ℕ → Engine → List ℕ → ToldIt → Term → List Says → ℕ → Ran
runs looked zero e m ev t ss b = ran m t ss b 1000
runs looked (suc n) e m ev t ss b =
    one_act looked (λ m₁ ev₁ t₁ ss₁ b₁. runs looked n e m₁ ev₁ t₁ ss₁ b₁) t ss b (e.step m ev).memory (e.step m ev).act

-- whoever attaches has a fresh screen
unfoldable pub screen_at : Event → Term → Term
screen_at (key c) t = t
screen_at (from i bs) t = t
screen_at (gone i) t = t
screen_at (attach w h) t = fresh w h

abbrev pub looked_at : Glass → Bool
looked_at g = g.attached

-- one thing that comes, with up to n steps; whether somebody looks is judged by the plain glass afterwards, so that leaving comes before any writing
abbrev pub run_of : (ℕ → Bool) → Engine → ℕ → List ℕ → Glass → Term → Event → Ran
run_of known e n m g t ev = runs (looked_at (turn known g ev).next) n e m (comes ev) (screen_at ev t) [] 0

-- the viewer's screen shows the picture, and the cursor where it is
unfoldable pub Shows : Glass → Term → Type 0
Shows g t =
    (t.rows ≡ picture g)
    × (t.shown ≡ (spot g).shown) × (((spot g).shown ≡ true → (t.row ≡ (spot g).row) × (t.col ≡ (spot g).col)))

abbrev pub is_over : Glass → Bool
is_over g = none_of g.windows

-- what may come in
unfoldable pub proper_event : Event → Bool
proper_event (key c) = nat_lt c 256
proper_event (from i bs) = a_row bs
proper_event (gone i) = true
proper_event (attach w h) = (nat_le 1 w && nat_le w 200) && (nat_le 2 h && nat_le h 60)

-- THE MAIN PROMISE, walked through whatever comes: the machine comes to wait; it says what the plain glass says; if somebody looks, the screen shows the
-- picture, and no more bytes were written than the cells that changed allow. It ends when the last window has gone.
unfoldable pub Right : (ℕ → Bool) → Engine → List ℕ → Glass → Term → List Event → Type 0
Right known e m g t [] = zero ≡ zero
Right known e m g t (ev ∷ evs) =
    (n : ℕ)
    × ((run_of known e n m g t ev).end ≡ 0)
    × ((run_of known e n m g t ev).said ≡ (turn known g ev).says)
    × (((turn known g ev).next.attached ≡ true) × (is_over (turn known g ev).next ≡ false) →
    Shows (turn known g ev).next (run_of known e n m g t ev).screen
    × ((run_of known e n m g t ev).bytes ≤ 64 + 32 * differs (screen_at ev t).rows (picture (turn known g ev).next)))
    × (is_over (turn known g ev).next ≡ true → (run_of known e n m g t ev).bytes ≤ 64)
    × (is_over (turn known g ev).next ≡ false ⊎ (is_over g ≡ true) →
    Right known e (run_of known e n m g t ev).memory (turn known g ev).next (run_of known e n m g t ev).screen evs)

unfoldable pub all_small : List ℕ → Bool
all_small ms = every (λ m. ltb m 18446744073709551616) ms

-- memory is all 0 at the start; it never grows, nor do its numbers beyond 64 bits
unfoldable pub Steady : Engine → Type 0
Steady e =
    (length e.start ≤ 262144) × (every (λ m. nat_eq m 0) e.start ≡ true)
    × ((m : List ℕ) (ev : ToldIt) → (length (e.step m ev).memory ≡ length m) × (all_small m ≡ true → all_small (e.step m ev).memory ≡ true))

-- the whole promise of a machine, for the keys after the prefix that are known
unfoldable pub Whole : (ℕ → Bool) → Engine → Type 0
Whole known e =
    Steady e
    × ((evs : List Event) → length evs ≤ 4294967296 → every proper_event evs ≡ true →
    Right known e e.start at_first (fresh 1 1) evs)

-- KEYS AFTER THE PREFIX THAT ARE KNOWN: none but the prefix itself, with one window and one pane; and at last all of them
abbrev pub core : ℕ → Bool
core c = false

-- with d (100) known beside: nobody looks any more
abbrev pub detaching : ℕ → Bool
detaching c = c == 100

abbrev pub everything : ℕ → Bool
everything c = true
