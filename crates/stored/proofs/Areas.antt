-- The areas of the memory lie apart: what is put into each is found there.
use Rattle.std.proofs.Common.{◌≡◌, ℕ, ◌+◌, ◌-◌, ◌^◌, ◌≤◌, true, ltb, List, ◌++◌, length, take, drop, sym, refl, ap, ◌∙◌, append_assoc, arith, length-append, length-take}
use lib.ListN.{length-replicate}
use Rattle.std.specs.List.{AllByRecursion}
use Rattle.std.proofs.ByRecursion.{All-append, All-take}
use Rattle.std.proofs.lemmas.List.{take_at, drop_at, take_all, take-append-drop}
use Rattle.meaning.specs.Words.{every, so_many}
use Rattle.meaning.proofs.Edits.{all_replicate}
use Rattle.engine.specs.Areas.{part, over, put}
use Rattle.engine.specs.Memory.{memory_size, header_at, screen_at, cells_at}
use Rattle.engine.proofs.Areas.{length_over, part_over, part_over_above, put_over}
use Rattle.engine.proofs.Maps.{placed}
use Rattle.stored.specs.Many.{cells_room, head_part, widened}

pub cells_room_is : cells_room ≡ 200000
unfolding cells_room
cells_room_is = refl

abbrev pub all_areas : (m head hs vs cs : List ℕ) → List ℕ
all_areas m head hs vs cs = over (over (over (over m cells_at cs) screen_at vs) header_at hs) 0 head

pub record Found (e head hs vs cs : List ℕ) : Type 0 where
  pub long : length e ≡ memory_size
  pub head_is : head_part e ≡ head
  pub headers_is : part e header_at (length hs) ≡ hs
  pub screen_is : part e screen_at (length vs) ≡ vs
  pub cells_is : part e cells_at (length cs) ≡ cs

pub all_found : (m head hs vs cs : List ℕ) → length m ≡ memory_size → length head ≡ 160 → length hs ≤ 2048 → length vs ≤ 12000 → length cs ≤ cells_room
    → Found (all_areas m head hs vs cs) head hs vs cs
all_found m head hs vs cs lm lh ld lv lp =
    let k = placed in
    let r = cells_room_is in
    let m₁ = over m cells_at cs in
    let m₂ = over m₁ screen_at vs in
    let m₃ = over m₂ header_at hs in
    let l₁ = length_over m cells_at cs (omega arith) in
    let l₂ = length_over m₁ screen_at vs (omega arith) in
    let l₃ = length_over m₂ header_at hs (omega arith) in
    let l₄ = length_over m₃ 0 head (omega arith) in
    record {
      long = l₄ ∙ (l₃ ∙ (l₂ ∙ (l₁ ∙ lm)));
      head_is = ap (λ (n : ℕ). part (over m₃ 0 head) 0 n) (sym lh) ∙ part_over m₃ 0 head (omega arith);
      headers_is = part_over_above m₃ 0 head header_at (length hs) (omega arith) (omega arith) ∙ part_over m₂ header_at hs (omega arith);
      screen_is = part_over_above m₃ 0 head screen_at (length vs) (omega arith) (omega arith)
          ∙ (part_over_above m₂ header_at hs screen_at (length vs) (omega arith) (omega arith) ∙ part_over m₁ screen_at vs (omega arith));
      cells_is = part_over_above m₃ 0 head cells_at (length cs) (omega arith) (omega arith)
          ∙ (part_over_above m₂ header_at hs cells_at (length cs) (omega arith) (omega arith)
          ∙ (part_over_above m₁ screen_at vs cells_at (length cs) (omega arith) (omega arith) ∙ part_over m cells_at cs (omega arith)));
    }

-- put into the memory, where they fit, they are written over
pub all_put : (m head hs vs cs : List ℕ) → length m ≡ memory_size → length head ≡ 160 → length hs ≤ 2048 → length vs ≤ 12000 → length cs ≤ cells_room
    → every (λ x. ltb x (2 ^ 64)) head ≡ true → every (λ x. ltb x (2 ^ 64)) hs ≡ true → every (λ x. ltb x (2 ^ 64)) vs ≡ true → every (λ x. ltb x (2 ^ 64)) cs ≡ true
    → put (put (put (put m cells_at cs) screen_at vs) header_at hs) 0 head ≡ all_areas m head hs vs cs
all_put m head hs vs cs lm lh ld lv lp sh sd sv sp =
    let k = placed in
    let r = cells_room_is in
    let m₁ = over m cells_at cs in
    let m₂ = over m₁ screen_at vs in
    let m₃ = over m₂ header_at hs in
    let l₁ = length_over m cells_at cs (omega arith) in
    let l₂ = length_over m₁ screen_at vs (omega arith) in
    let l₃ = length_over m₂ header_at hs (omega arith) in
    ap (λ (x : List ℕ). put (put (put x screen_at vs) header_at hs) 0 head) (put_over m cells_at cs (omega arith) sp)
    ∙ (ap (λ (x : List ℕ). put (put x header_at hs) 0 head) (put_over m₁ screen_at vs (omega arith) sv)
    ∙ (ap (λ (x : List ℕ). put x 0 head) (put_over m₂ header_at hs (omega arith) sd) ∙ put_over m₃ 0 head (omega arith) sh))

-- what begins with an area goes on behind it
pub goes_on : (xs ys : List ℕ) → take (length xs) ys ≡ xs → ys ≡ xs ++ drop (length xs) ys
goes_on xs ys e = sym (take-append-drop (length xs) ys) ∙ ap (λ (z : List ℕ). z ++ drop (length xs) ys) e

-- PARTS OF THE HEAD
pub second_part : (a b c : List ℕ) (p q : ℕ) → length a ≡ p → length b ≡ q → part (a ++ (b ++ c)) p q ≡ b
second_part a b c p q e f = ap (take q) (drop_at a (b ++ c) p e) ∙ take_at b c q f

pub third_part : (a b c d : List ℕ) (p q : ℕ) → length a + length b ≡ p → length c ≡ q → part (a ++ (b ++ (c ++ d))) p q ≡ c
third_part a b c d p q e f =
    ap (λ (z : List ℕ). part z p q) (sym (append_assoc a b (c ++ d))) ∙ second_part (a ++ b) c d p q (length-append a b ∙ e) f

pub last_part : (a b c d e : List ℕ) (p q : ℕ) → length a + length b + length c + length d ≡ p → length e ≡ q → part (a ++ (b ++ (c ++ (d ++ e)))) p q ≡ e
last_part a b c d e p q f g =
    let l : length (((a ++ b) ++ c) ++ d) ≡ p = (let x = length-append ((a ++ b) ++ c) d in let y = length-append (a ++ b) c in let z = length-append a b in omega arith) in
    let j : a ++ (b ++ (c ++ (d ++ e))) ≡ (((a ++ b) ++ c) ++ d) ++ e =
    sym (append_assoc a b (c ++ (d ++ e))) ∙ (sym (append_assoc (a ++ b) c (d ++ e)) ∙ sym (append_assoc ((a ++ b) ++ c) d e)) in
    ap (λ (z : List ℕ). part z p q) j ∙ (ap (take q) (drop_at (((a ++ b) ++ c) ++ d) e p l) ∙ take_all q e (omega arith))

-- A LIST WITH ZEROS BEHIND IT
pub length_widened : (n : ℕ) (xs : List ℕ) → length (widened n xs) ≡ n
length_widened n xs = simp (length-append, length-take, length-replicate) (omega arith)

pub widened_is : (n : ℕ) (xs : List ℕ) → length xs ≤ n → widened n xs ≡ xs ++ so_many (n - length xs) 0
widened_is n xs h = ap (λ (z : List ℕ). z ++ so_many (n - length xs) 0) (take_all n xs h)

pub all_widened : (P : ℕ → Type 0) → P 0 → (n : ℕ) (xs : List ℕ) → AllByRecursion P xs → AllByRecursion P (widened n xs)
all_widened P z n xs p = All-append P (take n xs) _ (All-take P n xs p) (all_replicate P (n - length xs) 0 z)

pub take_widened : (n : ℕ) (xs : List ℕ) → length xs ≤ n → take (length xs) (widened n xs) ≡ xs
take_widened n xs h = ap (take (length xs)) (widened_is n xs h) ∙ take_at xs (so_many (n - length xs) 0) (length xs) refl
