-- A watch at the lighthouse, with windows and panes: what comes on twenty columns and six rows, what the plain glass says to each of it, and what is
-- seen meanwhile.
use Rattle.std.specs.Prelude.{◌≡◌, true, List, [], ◌∷◌, ◌++◌, ℕ, codes, get_or}
use Prim.Native.String.{String}
use Rattle.meaning.specs.Words.{each}
use Rattle.meaning.specs.Screen.{Cell}
use Rattle.meaning.specs.Panes.{Glass, Event, key, from, gone, attach, Says, send, start, sized, leave, over, turn, at_first}
use Rattle.meaning.specs.Picture.{Rows, picture, sign, turned, Spot, spot}
use Rattle.meaning.specs.Promise.{everything}

-- what is said to each of the things that come, from a glass on, with every key after the prefix known
unfoldable pub said_from : Glass → List Event → List (List Says)
said_from g [] = []
said_from g (ev ∷ evs) = (turn everything g ev).says ∷ said_from (turn everything g ev).next evs

-- the same from the start
abbrev pub said_by : List Event → List (List Says)
said_by evs = said_from at_first evs

-- a look at the screen: all of its cells, and the cursor
pub record Look : Type 0 where
  pub cells : Rows
  pub cursor : Spot

-- a line of the table: something that comes, and what is said to it; or what is seen: the row and column, from 0, where the cursor shows, and all rows
pub data Line : Type 0 where
  on : Event → List Says → Line
  seen : ℕ → ℕ → Rows → Line

abbrev pub what_comes : List Line → List Event
what_comes [] = []
what_comes (on ev ss ∷ ls) = ev ∷ what_comes ls
what_comes (seen r c rs ∷ ls) = what_comes ls

abbrev pub what_is_said : List Line → List (List Says)
what_is_said [] = []
what_is_said (on ev ss ∷ ls) = ss ∷ what_is_said ls
what_is_said (seen r c rs ∷ ls) = what_is_said ls

abbrev pub what_is_seen : List Line → List Look
what_is_seen [] = []
what_is_seen (on ev ss ∷ ls) = what_is_seen ls
what_is_seen (seen r c rs ∷ ls) = record { cells = rs; cursor = record { shown = true; row = r; col = c } } ∷ what_is_seen ls

-- the plain glass's picture and cursor at each look, with all that comes before it
unfoldable pub looks_from : Glass → List Line → List Look
looks_from g [] = []
looks_from g (on ev ss ∷ ls) = looks_from (turn everything g ev).next ls
looks_from g (seen r c rs ∷ ls) = record { cells = picture g; cursor = spot g } ∷ looks_from g ls

-- a key that is a character; the two bytes that begin a row; a control sequence
abbrev pub typed : String → Event
typed s = key (get_or (codes s) 0 0)

abbrev pub new_row : List ℕ
new_row = 13 ∷ 10 ∷ []

abbrev pub csi : String → List ℕ
csi s = 27 ∷ 91 ∷ codes s

-- cells in plain style, and in reverse video
abbrev pub plain : String → List Cell
plain s = each sign (codes s)

abbrev pub reverse : String → List Cell
reverse s = each turned (codes s)

-- THE PICTURES. Two panes beside each other
abbrev pub side_by_side : Rows
side_by_side =
    (plain "ahoy     |" ++ reverse "log" ++ plain "       ")
    ∷ plain "$        |          "
    ∷ plain "         | x        "
    ∷ plain "         |          "
    ∷ plain "         |          "
    ∷ reverse " 0*                 "
    ∷ []

-- the second of them split: with two rows left for it, that of log has gone, and the third pane has no room for one
abbrev pub three_parts : Rows
three_parts =
    plain "ahoy     |          "
    ∷ plain "$        | x        "
    ∷ plain "         |----------"
    ∷ plain "         |two       "
    ∷ plain "         |three     "
    ∷ reverse " 0*                 "
    ∷ []

-- another window, with nothing in it
abbrev pub second_window : Rows
second_window =
    plain "                    "
    ∷ plain "                    "
    ∷ plain "                    "
    ∷ plain "                    "
    ∷ plain "                    "
    ∷ reverse " 0  1*              "
    ∷ []

-- the three parts on nine columns and five rows
abbrev pub less_room : Rows
less_room =
    plain "ahoy| x  "
    ∷ plain "$   |----"
    ∷ plain "    |two "
    ∷ plain "    |thre"
    ∷ reverse " 0*      "
    ∷ []

-- THE TABLE. Key 1 is the prefix.
abbrev pub day : List Line
day =
    on (attach 20 6) (start 1 20 5 ∷ [])
    ∷ on (from 1 (codes "ahoy" ++ new_row ++ codes "$ ")) []
    ∷ on (key 1) []
    ∷ on (typed "|") (start 2 10 5 ∷ sized 1 9 5 ∷ [])
    ∷ on (from 2 (csi "7m" ++ codes "log" ++ csi "m" ++ csi "3;2H" ++ codes "x")) []
    ∷ seen 2 12 side_by_side
    ∷ on (key 1) []
    ∷ on (typed "-") (start 3 10 2 ∷ sized 2 10 2 ∷ [])
    ∷ on (from 3 (codes "one" ++ new_row ++ codes "two" ++ new_row ++ codes "three")) []
    ∷ on (key 1) []
    ∷ on (typed "o") []
    ∷ seen 1 2 three_parts
    ∷ on (from 1 (csi "6n")) (send 1 (csi "2;3R") ∷ [])
    ∷ on (key 1) []
    ∷ on (typed "c") (start 4 20 5 ∷ [])
    ∷ seen 0 0 second_window
    ∷ on (gone 4) []
    ∷ on (attach 9 5) (sized 1 4 4 ∷ sized 2 4 1 ∷ sized 3 4 2 ∷ [])
    ∷ seen 1 2 less_room
    ∷ on (key 1) []
    ∷ on (typed "d") (leave ∷ [])
    ∷ on (gone 3) (sized 2 4 4 ∷ [])
    ∷ on (gone 2) (sized 1 9 4 ∷ [])
    ∷ on (gone 1) (over ∷ [])
    ∷ []

-- to what comes, what is said
abbrev pub TheWatch : Type 0
TheWatch = said_by (what_comes day) ≡ what_is_said day

-- at each look, what is seen
abbrev pub TheSight : Type 0
TheSight = looks_from at_first day ≡ what_is_seen day
