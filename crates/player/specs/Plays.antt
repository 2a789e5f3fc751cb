-- One thing played: the machine goes until it waits, its bytes are on the screen, and they are no more than are granted.
use Rattle.std.specs.Prelude.{◌≡◌, ℕ, ◌≤◌, Bool, true, false, List, length, Ok, Result, vec_items}
use Rattle.meaning.specs.Words.{pick, so_many}
use Rattle.meaning.specs.Screen.{fresh}
use Rattle.meaning.specs.Bytes.{written}
use Rattle.meaning.specs.Panes.{Event, key, from, gone, attach}
use Rattle.meaning.specs.Picture.{differs}
use Rattle.meaning.specs.Promise.{Engine, comes, screen_at}
use Rattle.render_law.specs.Law.{differing}
use Rattle.shown.specs.Driven.{unheard}
use Rattle.serve.specs.declared.ended.Ended.{Ended}
use Rattle.serve.specs.declared.ended.Ended.TheVariants.{Waits, Over}
use Rattle.serve.specs.declared.ended.Fault.{Fault}
use Rattle.serve.specs.Log.{no_acts, log_of}
use Rattle.serve.specs.Serving.{Went, goes, sizes_fit, Serves}
use Rattle.player.specs.declared.play.Player.{Player}
use Rattle.player.specs.Grants.{grant, still_attached, tally_on}
use Rattle.player.specs.Screens.{screen_of, whole_screen}

-- before anything has come: memory is all 0, the screen is fresh and has one cell
pub record Begins (p : Player) : Type 0 where
  pub memory : vec_items p.memory ≡ so_many 238304 0
  pub out : vec_items p.out ≡ so_many 65536 0
  pub screen : screen_of p.screen ≡ fresh 1 1
  pub attached : p.attached ≡ false
  pub things : p.tally.things ≡ 0
  pub sent : p.tally.sent ≡ 0
  pub granted : p.tally.granted ≡ 0

-- whoever attaches has a fresh screen
pub record Looked (p : Player) (w h : ℕ) (p₁ : Player) : Type 0 where
  pub memory : p₁.memory ≡ p.memory
  pub out : p₁.out ≡ p.out
  pub tally : p₁.tally ≡ p.tally
  pub screen : screen_of p₁.screen ≡ fresh w h
  pub attached : p₁.attached ≡ true

-- whether somebody is attached once this has come
abbrev pub attached_at : Event → Bool → Bool
attached_at (key c) b = b
attached_at (from i bs) b = b
attached_at (gone i) b = b
attached_at (attach w h) b = true

-- what this does to the screen before the machine is told it
pub record Attended (p : Player) (ev : Event) (p₁ : Player) : Type 0 where
  pub memory : p₁.memory ≡ p.memory
  pub out : p₁.out ≡ p.out
  pub tally : p₁.tally ≡ p.tally
  pub screen : screen_of p₁.screen ≡ screen_at ev (screen_of p.screen)
  pub attached : p₁.attached ≡ attached_at ev p.attached

abbrev pub end_of : Bool → Result Ended Fault
end_of over = Ok (pick over Over Waits)

-- the machine has come to wait; so many steps are given
pub record ServedSo (e : Engine) (ev : Event) (p : Player) (over : Bool) (p₁ : Player) : Type 0 where
  pub serves : Serves e 1000000 ev (vec_items p.memory) (vec_items p.out) no_acts (end_of over) (vec_items p₁.memory) (log_of p₁.acts)
  pub long : length (vec_items p₁.memory) ≡ length (vec_items p.memory)
  pub room : length (vec_items p₁.out) ≡ length (vec_items p.out)
  pub screen : p₁.screen ≡ p.screen
  pub attached : p₁.attached ≡ p.attached
  pub tally : p₁.tally ≡ p.tally

-- what it wrote is on the screen
pub record Seen (p p₁ : Player) : Type 0 where
  pub memory : p₁.memory ≡ p.memory
  pub out : p₁.out ≡ p.out
  pub acts : p₁.acts ≡ p.acts
  pub tally : p₁.tally ≡ p.tally
  pub screen : screen_of p₁.screen ≡ unheard (written (screen_of p.screen) (vec_items p.acts.written))
  pub attached : p₁.attached ≡ still_attached p.attached (vec_items p.acts.told)
  pub whole : whole_screen p.screen ≡ true
  pub whole_then : whole_screen p₁.screen ≡ true
  pub wide : p₁.screen.term.size.wide ≡ p.screen.term.size.wide
  pub high : p₁.screen.term.size.high ≡ p.screen.term.size.high

-- no more bytes than are granted, by the cells that differ from those before
pub record Judged (p : Player) (before : List ℕ) (over : Bool) (p₁ : Player) : Type 0 where
  pub memory : p₁.memory ≡ p.memory
  pub out : p₁.out ≡ p.out
  pub screen : p₁.screen ≡ p.screen
  pub attached : p₁.attached ≡ p.attached
  pub enough : length (vec_items p.acts.written) ≤ grant p.attached over (differing before (vec_items p.screen.cells))
  pub tally : p₁.tally ≡ tally_on p.tally (length (vec_items p.acts.written)) (grant p.attached over (differing before (vec_items p.screen.cells)))

-- how the machine goes from the player's memory
abbrev pub went_so : Engine → Event → Player → Went
went_so e ev p = goes (sizes_fit e (vec_items p.memory) (vec_items p.out)) 1000000 e (vec_items p.memory) (comes ev) no_acts false

-- all of it: memory and end are the machine's, and the sizes stay; the screen, fresh for whoever attaches, has what it wrote; and by the rows that differ no more was written than
-- is granted
pub record Plays (e : Engine) (ev : Event) (p : Player) (over : Bool) (p₁ : Player) : Type 0 where
  pub memory : vec_items p₁.memory ≡ (went_so e ev p).memory
  pub long : length (vec_items p₁.memory) ≡ length (vec_items p.memory)
  pub room : length (vec_items p₁.out) ≡ length (vec_items p.out)
  pub end : end_of over ≡ (went_so e ev p).end
  pub screen : screen_of p₁.screen ≡ unheard (written (screen_at ev (screen_of p.screen)) (went_so e ev p).log.for_viewer)
  pub attached : p₁.attached ≡ still_attached (attached_at ev p.attached) (went_so e ev p).log.lines
  pub enough : length (went_so e ev p).log.for_viewer ≤ grant p₁.attached over (differs (screen_at ev (screen_of p.screen)).rows (screen_of p₁.screen).rows)
  pub tally :
      p₁.tally
      ≡ tally_on p.tally (length (went_so e ev p).log.for_viewer) (grant p₁.attached over (differs (screen_at ev (screen_of p.screen)).rows (screen_of p₁.screen).rows))
