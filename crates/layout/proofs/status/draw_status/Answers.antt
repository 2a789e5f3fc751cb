use Rattle.std.proofs.Common.{◌≡◌, ℕ, ◌<◌, min, [], ◌∷◌, get_or, length, arith, rules}
use Rattle.meaning.specs.Picture.{turned}
use Rattle.grid.specs.Cells.{unpacked}
use Rattle.layout.proofs.Signs.{each_turned, status_drawn}
use Rattle.layout.proofs.status.draw_status.Goals as goal

pub returns : goal.returns
returns c =
    let k : c.min-count.result ≡ min (length c.args.row.now) 3 = (let l = c.fill.ensures.len in omega arith) in
    let e = c.map-signs.ensures.items in
    let t : (i : ℕ) → i < 3 → unpacked (get_or c.map-signs.result i 0) ≡ turned (get_or (32 ∷ 48 ∷ 42 ∷ []) i 0) = λ i h. (let a = e.at i 0 0 h in search rules) in
    status_drawn _ _ _ c.map-signs.result _ _ (t 0 (omega arith)) (each_turned (32 ∷ 48 ∷ 42 ∷ []) _ e.long t) k (c.fill.ensures.after (λ y p. p)) c.copy_from_slice.ensures.after
