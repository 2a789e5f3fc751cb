-- The closing go, as the code does it.
use Rattle.std.proofs.Common.{◌≡◌, ℕ, ◌≤◌, Bool, true, false, ◌&&◌, leb, List, length, refl, arith}
use Rattle.std.proofs.lemmas.Bool.{and_from, le-leb}
use Rattle.output.specs.Added.{Added}
use Rattle.render.proofs.Drawing.{row_is}
use Rattle.render.specs.Finish.{can_be_at, finish_bytes, finish_pen, finished, Finished}
use Rattle.render.specs.declared.pen.Pen.{Pen}

pub refused : (w h row col : ℕ) (visible : Bool) (pen : Pen) (out : List ℕ) → (leb 16 (length out) && can_be_at w h row col visible) ≡ false
    → Finished (finished w h row col visible (length out) pen) pen 0 out out
unfolding finished
refused w h row col visible pen out e = rw e (record { set_to = refl; sent = refl; within = omega arith; so = refl })

pub closed : (w h row col : ℕ) (visible : Bool) (pen pen₁ : Pen) (r : ℕ) (out out₁ : List ℕ) → 16 ≤ length out → can_be_at w h row col visible ≡ true
    → Added 0 out r out₁ (finish_bytes pen row col visible) → r ≤ 16 → pen₁ ≡ finish_pen pen row col visible
    → Finished (finished w h row col visible (length out) pen) pen₁ r out out₁
unfolding finished
closed w h row col visible pen pen₁ r out out₁ l e a m f =
    let g : (leb 16 (length out) && can_be_at w h row col visible) ≡ true = and_from _ _ (le-leb 16 (length out) l) e in
    let n : r ≡ length (finish_bytes pen row col visible) = (let k = a.far in omega arith) in
    rw g (record { set_to = f; sent = n; within = omega arith; so = row_is r out out₁ (finish_bytes pen row col visible) a.said a.kept n })
