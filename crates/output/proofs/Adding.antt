-- Bytes added one after the other.
use Rattle.std.proofs.Common.{◌≡◌, ℕ, ◌+◌, ◌<◌, ◌≤◌, List, [], ◌∷◌, ◌++◌, length, take, drop, set, sym, refl, ap, ◌∙◌, append_assoc, append-nil, arith, length-append}
use Rattle.std.proofs.lemmas.List.{take_more_set, drop-set-lt, drop-drop}
use Rattle.output.specs.Added.{Added, Adds}
use Rattle.output.specs.declared.Buffer.{Buffer}

pub one_added : (n : ℕ) (old : List ℕ) (b : ℕ) → n < length old → Added n old (n + 1) (set old n b) (b ∷ [])
one_added n old b h = record { said = take_more_set old n b h; kept = drop-set-lt (n + 1) old n b (omega arith); far = refl }

pub none_added : (n : ℕ) (old : List ℕ) → Added n old n old []
none_added n old = record { said = sym (append-nil (take n old)); kept = refl; far = omega arith }

-- what lies behind stays as it was
pub kept_on : {n r : ℕ} {mid new bs : List ℕ} (old : List ℕ) → Added n mid r new bs → drop n mid ≡ drop n old → drop r new ≡ drop r old
kept_on {n} {r} {mid} {new} {bs} old a e =
    let f = a.far in
    a.kept ∙ (rw f (sym (drop-drop (length bs) n mid) ∙ (ap (λ (x : List ℕ). drop (length bs) x) e ∙ drop-drop (length bs) n old)))

pub then : {n r s : ℕ} {old mid new bs cs : List ℕ} → Added n old r mid bs → Added r mid s new cs → Added n old s new (bs ++ cs)
then {n} {r} {s} {old} {mid} {new} {bs} {cs} a b =
    record {
      said = b.said ∙ (ap (λ (x : List ℕ). x ++ cs) a.said ∙ append_assoc (take n old) bs cs);
      kept = kept_on old b a.kept;
      far = let e = b.far in let f = a.far in let l = length-append bs cs in omega arith;
    }

-- bytes, and then more, come into one buffer
pub both : {x y z : Buffer} {bs cs : List ℕ} → Adds x y bs → Adds y z cs → Adds x z (bs ++ cs)
both p q = record { added = then p.added q.added; long = q.long ∙ p.long; same_row = q.same_row ∙ p.same_row }

-- as much room as is left behind what has come
pub room_left : {x y : Buffer} {bs : List ℕ} (n : ℕ) → Adds x y bs → x.len + length bs + n ≤ length x.bytes.now → y.len + n ≤ length y.bytes.now
room_left n p h = let e = p.added.far in let l = p.long in omega arith
