-- Rows blanked from somewhere on, up to somewhere, and all.
use Rattle.std.proofs.Common.{◌≡◌, ℕ, suc, ◌+◌, ◌-◌, List, [], ◌++◌, length, take, drop, add-one, arith}
use native.Mathlib.Nat.{sub-zero}
use Rattle.std.proofs.lemmas.List.{append-nil, drop_all}
use Rattle.meaning.specs.Words.{so_many}
use Rattle.meaning.specs.Screen.{Cell, blank_row}
use Rattle.grid.specs.Edits.{rows_blanked}

pub blanked_below : (w h r : ℕ) (rs : List (List Cell)) → length rs ≡ h → rows_blanked w rs (r + 1) h ≡ take (suc r) rs ++ so_many (h - suc r) (blank_row w)
blanked_below w h r rs l =
    let d : drop h rs ≡ [] = drop_all h rs (omega arith) in
    let s : r + 1 ≡ suc r = add-one r in
    rw (d, append-nil, s)

pub blanked_all : (w h : ℕ) (rs : List (List Cell)) → length rs ≡ h → rows_blanked w rs 0 h ≡ so_many h (blank_row w)
blanked_all w h rs l =
    let d : drop h rs ≡ [] = drop_all h rs (omega arith) in
    rw (d, append-nil, sub-zero)
