-- The loop that prints acts one behind the other.
use Rattle.std.proofs.Common.{◌≡◌, ℕ, ◌+◌, ◌<◌, ◌≤◌, List, ◌++◌, length, get_or, drop, sym, ap, ◌∙◌, append_assoc, append-nil}
use Rattle.std.proofs.lemmas.List.{at_drop_more, at_drop_all}
use Rattle.meaning.specs.declared.answer.Told.{Told}
use Rattle.days.specs.Acts.{print_so, written_left, sent_left, acts_lines}

pub one_printed : (out more base ws ss ws₁ ss₁ : List ℕ) (rs : List Told) (i : ℕ) (d : Told) → i < length rs → more ≡ out ++ print_so (get_or rs i d) ws ss
    → ws₁ ≡ written_left (get_or rs i d) ws → ss₁ ≡ sent_left (get_or rs i d) ss → out ++ acts_lines (drop i rs) ws ss ≡ base → more ++ acts_lines (drop (i + 1) rs) ws₁ ss₁ ≡ base
unfolding acts_lines
one_printed out more base ws ss ws₁ ss₁ rs i d h e w s p =
    let step : acts_lines (drop i rs) ws ss ≡ print_so (get_or rs i d) ws ss ++ acts_lines (drop (i + 1) rs) (written_left (get_or rs i d) ws) (sent_left (get_or rs i d) ss) = at_drop_more (λ (xs : List Told). acts_lines xs ws ss) rs i d h in
    rw (e, w, s) (append_assoc out (print_so (get_or rs i d) ws ss) _ ∙ (ap (λ (xs : List ℕ). out ++ xs) (sym step) ∙ p))

pub all_printed : (out base ws ss : List ℕ) (rs : List Told) (i : ℕ) → length rs ≤ i → out ++ acts_lines (drop i rs) ws ss ≡ base → out ≡ base
unfolding acts_lines
all_printed out base ws ss rs i h p = sym (append-nil out) ∙ (ap (λ (xs : List ℕ). out ++ xs) (sym (at_drop_all (λ (xs : List Told). acts_lines xs ws ss) rs i h)) ∙ p)
