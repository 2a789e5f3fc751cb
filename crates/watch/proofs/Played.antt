-- The day of specs/Watch.antt by computing.
use mathlib.Core.Path.{refl}
use Rattle.meaning.specs.Screen.{printed, goes_to, styled}
use Rattle.meaning.specs.Bytes.{digits, low_byte, byte, written}
use Rattle.meaning.specs.Panes.{places, ids, in_place, without, window_at, fit_places, settled, after, command, on_bytes, gone_before, turn}
use Rattle.meaning.specs.Picture.{put_rows, draw_places, draw_lines, window_signs, picture, spot}
use Rattle.watch.specs.Watch.{said_from, looks_from, TheWatch, TheSight}

pub the_watch : TheWatch
unfolding said_from turn on_bytes command settled fit_places places in_place without window_at written byte low_byte digits printed goes_to
the_watch = refl

pub the_sight : TheSight
unfolding looks_from picture spot draw_places draw_lines put_rows window_signs turn on_bytes command settled fit_places places ids in_place without window_at after gone_before written byte low_byte digits printed goes_to styled
the_sight = refl
