-- The cursor: saved and restored, a row down and up again; and where keys go.
use Rattle.std.proofs.Common.{◌≡◌, ℕ, suc, ◌-◌, ◌<◌, ◌≤◌, true, ◌&&◌, eqb, ltb, leb, length, ap, arith}
use Rattle.std.proofs.lemmas.Bool.{ne_eqb, and_parts, ltb-true, leb-true}
use Rattle.meaning.specs.Words.{smaller}
use Rattle.meaning.specs.Screen.{Term, row_on, at}
use Rattle.meaning.specs.Panes.{turn}
use Rattle.meaning.specs.Laws.{good, Restored, OnAndBack, KeysGo}

-- the numbers of a good screen
pub record Within (t : Term) : Type 0 where
  pub on_row : t.row < t.high
  pub on_col : t.col < t.wide
  pub ordered : t.top ≤ t.bottom
  pub inside : t.bottom < t.high

pub good_within : (t : Term) → good t ≡ true → Within t
unfolding good
good_within t g =
    let p = and_parts (eqb (length t.rows) t.high && _) _ g in
    let q = and_parts (ltb t.row t.high && _) _ p.1 in
    let a = and_parts (ltb t.row t.high) _ q.0 in
    let b = and_parts (leb t.top t.bottom) _ q.1 in
    record { on_row = ltb-true _ _ a.0; on_col = ltb-true _ _ a.1; ordered = leb-true _ _ b.0; inside = ltb-true _ _ b.1 }

pub restored : Restored
restored t u g w h s =
    let i = good_within t g in
    let a : smaller (t.high - 1) t.row ≡ t.row = omega arith in
    let b : smaller (t.wide - 1) t.col ≡ t.col = omega arith in
    (rw (s, h, a), rw (s, w, b), rw s, rw s)

pub on_and_back : OnAndBack
on_and_back t g a b =
    let i = good_within t g in
    let e : smaller (suc t.row) (t.high - 1) ≡ suc t.row = omega arith in
    let f : row_on t ≡ at t (suc t.row) t.col = rw (ne_eqb t.row t.bottom (λ z. absurd (omega arith)), e) in
    rw f (rw (ne_eqb (suc t.row) t.top (λ z. absurd (omega arith))) (ap (λ (k : ℕ). at t k t.col) (omega arith)))

pub keys_go : KeysGo
unfolding turn
keys_go known g c a p n = rw (a, p, ne_eqb c 1 (λ e. absurd (let z : ◌≡◌ {A = ℕ} 0 1 = n e in omega arith)))
