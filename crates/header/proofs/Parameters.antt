-- Parameters stored with zeros behind them.
use Rattle.std.proofs.Common.{◌≡◌, ℕ, suc, ◌+◌, ◌-◌, ◌<◌, List, [], ◌∷◌, ◌++◌, length, get_or, take, set, replicate, sym, arith}
use Rattle.std.proofs.lemmas.List.{take_more, set_at, length-take-le, append_assoc}

pub padded_more : (ns : List ℕ) (k : ℕ) → k < length ns → k < 32 → set (take k ns ++ replicate (32 - k) 0) k (get_or ns k 0) ≡ take (k + 1) ns ++ replicate (32 - (k + 1)) 0
padded_more ns k h p =
    let v : ℕ = get_or ns k 0 in
    let n : 32 - k ≡ suc (32 - (k + 1)) = omega arith in
    rw (n, set_at (take k ns) 0 (replicate (32 - (k + 1)) 0) v k (length-take-le k ns (omega arith)), take_more ns k 0 h)
    (sym (append_assoc (take k ns) (v ∷ []) (replicate (32 - (k + 1)) 0)))
