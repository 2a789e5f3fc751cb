-- The loop that reads a decimal number.
use Rattle.std.proofs.Common.{◌≡◌, ℕ, ◌+◌, ◌-◌, ◌*◌, ◌<◌, ◌≤◌, true, false, List, length, get_or, drop, Some, None, Option, sym, ◌∙◌}
use Rattle.std.proofs.lemmas.List.{at_drop_more, at_drop_all}
use Rattle.std.proofs.lemmas.Bool.{cond-true, cond-false, le-leb, and_from}
use Rattle.days.specs.Line.{is_digit, number_on, number_of}

pub number_more : (cs : List ℕ) (i n : ℕ) (all : Option ℕ) → i < length cs → is_digit (get_or cs i 0) ≡ true → number_on n (drop i cs) ≡ all → number_on (10 * n + (get_or cs i 0 - 48)) (drop (i + 1) cs) ≡ all
unfolding number_on
number_more cs i n all h e p = sym (cond-true _ _ _ e) ∙ sym (at_drop_more (number_on n) cs i 0 h) ∙ p

pub number_stops : (cs : List ℕ) (i n : ℕ) (all : Option ℕ) → i < length cs → is_digit (get_or cs i 0) ≡ false → number_on n (drop i cs) ≡ all → None ≡ all
unfolding number_on
number_stops cs i n all h e p = sym (cond-false _ _ _ e) ∙ sym (at_drop_more (number_on n) cs i 0 h) ∙ p

pub number_ends : (cs : List ℕ) (i n : ℕ) (all : Option ℕ) → length cs ≤ i → number_on n (drop i cs) ≡ all → Some n ≡ all
unfolding number_on
number_ends cs i n all h p = sym (at_drop_all (number_on n) cs i h) ∙ p

-- as many digits as a number has
pub number_of_digits : (cs : List ℕ) → 1 ≤ length cs → length cs ≤ 10 → number_on 0 cs ≡ number_of cs
number_of_digits cs h k = sym (cond-true _ _ _ (and_from _ _ (le-leb 1 _ h) (le-leb _ 10 k)))
