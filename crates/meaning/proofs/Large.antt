-- How many rows the picture has.
use Rattle.std.proofs.Common.{◌≡◌, ℕ, suc, ◌-◌, Bool, true, false, ltb, List, [], ◌∷◌, length, refl, ◌∙◌, length-set}
use lib.ListN.{length-replicate}
use Rattle.meaning.specs.Words.{pick}
use Rattle.meaning.specs.Panes.{Glass, Layout, pane, beside, above, Rect, Place, Pane, left_of, right_of, upper_of, lower_of, pane_of, room, current}
use Rattle.meaning.specs.Picture.{Rows, put_rows, draw_one, draw_places, draw_lines, picture}
use Rattle.meaning.specs.Laws.{PictureLarge}

pub length_put_rows : (x y : ℕ) (cs rs : Rows) → length (put_rows x y cs rs) ≡ length rs
unfolding put_rows
length_put_rows x y [] rs = refl
length_put_rows x y (c ∷ cs) rs = length_put_rows x (suc y) cs _ ∙ length-set rs y _

length_pick : (b : Bool) (rs ss : Rows) → length rs ≡ length ss → length (pick b rs ss) ≡ length ss
length_pick true rs ss e = e
length_pick false rs ss e = refl

pub length_draw_lines : (l : Layout) (r : Rect) (rs : Rows) → length (draw_lines l r rs) ≡ length rs
unfolding draw_lines
length_draw_lines (pane i) r rs = refl
length_draw_lines (beside a b) r rs =
    length_draw_lines b (right_of r) _ ∙ (length_draw_lines a (left_of r) _ ∙ length_pick (ltb 0 r.wide) _ rs (length_put_rows _ _ _ rs))
length_draw_lines (above a b) r rs =
    length_draw_lines b (lower_of r) _ ∙ (length_draw_lines a (upper_of r) _ ∙ length_pick (ltb 0 r.high) _ rs (length_put_rows _ _ _ rs))

length_draw_one : (q : Place) (ps : List Pane) (rs : Rows) → length (draw_one q ps rs) ≡ length rs
length_draw_one q [] rs = refl
length_draw_one q (p ∷ ps) rs = length_put_rows _ _ _ rs

pub length_draw_places : (g : Glass) (qs : List Place) (rs : Rows) → length (draw_places g qs rs) ≡ length rs
unfolding draw_places
length_draw_places g [] rs = refl
length_draw_places g (q ∷ qs) rs = length_draw_places g qs _ ∙ length_draw_one q (pane_of g q.id) rs

pub picture_large : PictureLarge
unfolding picture
picture_large g h =
    length-set _ (g.high - 1) _ ∙ (length_draw_places g _ _ ∙ (length_draw_lines (current g).layout (room g) _ ∙ length-replicate g.high _))
