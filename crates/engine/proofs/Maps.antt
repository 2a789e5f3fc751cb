-- The areas of the memory lie apart: what is put into each is found there.
use Rattle.std.proofs.Common.{◌≡◌, ℕ, ◌^◌, ◌≤◌, true, ltb, List, length, sym, refl, ap, ◌∙◌, arith}
use Rattle.meaning.specs.Words.{every}
use Rattle.engine.specs.Areas.{part, over, put}
use Rattle.engine.specs.Memory.{memory_size, header_at, screen_at, cells_at}
use Rattle.engine.proofs.Areas.{length_over, part_over, part_over_above, put_over}

pub record Placed : Type 0 where
  pub size : memory_size ≡ 238304
  pub header : header_at ≡ 256
  pub screen : screen_at ≡ 2304
  pub cells : cells_at ≡ 38304

pub placed : Placed
unfolding memory_size header_at screen_at cells_at
placed = record { size = refl; header = refl; screen = refl; cells = refl }

abbrev pub all_areas : (m head hdr vs ps : List ℕ) → List ℕ
all_areas m head hdr vs ps = over (over (over (over m cells_at ps) screen_at vs) header_at hdr) 0 head

abbrev pub two_areas : (m head vs : List ℕ) → List ℕ
two_areas m head vs = over (over m screen_at vs) 0 head

pub record Found (e head hdr vs ps : List ℕ) : Type 0 where
  pub long : length e ≡ memory_size
  pub head_is : part e 0 16 ≡ head
  pub header_is : part e header_at 64 ≡ hdr
  pub screen_is : part e screen_at (length vs) ≡ vs
  pub cells_is : part e cells_at (length ps) ≡ ps

pub all_found : (m head hdr vs ps : List ℕ) → length m ≡ memory_size → length head ≡ 16 → length hdr ≡ 64 → length vs ≤ 12000 → length ps ≤ 12000
    → Found (all_areas m head hdr vs ps) head hdr vs ps
all_found m head hdr vs ps lm lh ld lv lp =
    let k = placed in
    let m₁ = over m cells_at ps in
    let m₂ = over m₁ screen_at vs in
    let m₃ = over m₂ header_at hdr in
    let l₁ = length_over m cells_at ps (omega arith) in
    let l₂ = length_over m₁ screen_at vs (omega arith) in
    let l₃ = length_over m₂ header_at hdr (omega arith) in
    let l₄ = length_over m₃ 0 head (omega arith) in
    record {
      long = l₄ ∙ (l₃ ∙ (l₂ ∙ (l₁ ∙ lm)));
      head_is = ap (λ (n : ℕ). part (over m₃ 0 head) 0 n) (sym lh) ∙ part_over m₃ 0 head (omega arith);
      header_is = part_over_above m₃ 0 head header_at 64 (omega arith) (omega arith) ∙ (ap (λ (n : ℕ). part m₃ header_at n) (sym ld) ∙ part_over m₂ header_at hdr (omega arith));
      screen_is = part_over_above m₃ 0 head screen_at (length vs) (omega arith) (omega arith)
          ∙ (part_over_above m₂ header_at hdr screen_at (length vs) (omega arith) (omega arith) ∙ part_over m₁ screen_at vs (omega arith));
      cells_is = part_over_above m₃ 0 head cells_at (length ps) (omega arith) (omega arith)
          ∙ (part_over_above m₂ header_at hdr cells_at (length ps) (omega arith) (omega arith)
          ∙ (part_over_above m₁ screen_at vs cells_at (length ps) (omega arith) (omega arith) ∙ part_over m cells_at ps (omega arith)));
    }

pub record FoundTwo (e head vs : List ℕ) : Type 0 where
  pub long : length e ≡ memory_size
  pub head_is : part e 0 16 ≡ head
  pub screen_is : part e screen_at (length vs) ≡ vs

pub two_found : (m head vs : List ℕ) → length m ≡ memory_size → length head ≡ 16 → length vs ≤ 12000 → FoundTwo (two_areas m head vs) head vs
two_found m head vs lm lh lv =
    let k = placed in
    let m₁ = over m screen_at vs in
    let l₁ = length_over m screen_at vs (omega arith) in
    let l₂ = length_over m₁ 0 head (omega arith) in
    record {
      long = l₂ ∙ (l₁ ∙ lm);
      head_is = ap (λ (n : ℕ). part (over m₁ 0 head) 0 n) (sym lh) ∙ part_over m₁ 0 head (omega arith);
      screen_is = part_over_above m₁ 0 head screen_at (length vs) (omega arith) (omega arith) ∙ part_over m screen_at vs (omega arith);
    }

-- put into the memory, where they fit, they are written over
pub all_put : (m head hdr vs ps : List ℕ) → length m ≡ memory_size → length head ≡ 16 → length hdr ≡ 64 → length vs ≤ 12000 → length ps ≤ 12000
    → every (λ x. ltb x (2 ^ 64)) head ≡ true → every (λ x. ltb x (2 ^ 64)) hdr ≡ true → every (λ x. ltb x (2 ^ 64)) vs ≡ true → every (λ x. ltb x (2 ^ 64)) ps ≡ true
    → put (put (put (put m cells_at ps) screen_at vs) header_at hdr) 0 head ≡ all_areas m head hdr vs ps
all_put m head hdr vs ps lm lh ld lv lp sh sd sv sp =
    let k = placed in
    let m₁ = over m cells_at ps in
    let m₂ = over m₁ screen_at vs in
    let m₃ = over m₂ header_at hdr in
    let l₁ = length_over m cells_at ps (omega arith) in
    let l₂ = length_over m₁ screen_at vs (omega arith) in
    let l₃ = length_over m₂ header_at hdr (omega arith) in
    ap (λ (x : List ℕ). put (put (put x screen_at vs) header_at hdr) 0 head) (put_over m cells_at ps (omega arith) sp)
    ∙ (ap (λ (x : List ℕ). put (put x header_at hdr) 0 head) (put_over m₁ screen_at vs (omega arith) sv)
    ∙ (ap (λ (x : List ℕ). put x 0 head) (put_over m₂ header_at hdr (omega arith) sd) ∙ put_over m₃ 0 head (omega arith) sh))

pub two_put : (m head vs : List ℕ) → length m ≡ memory_size → length head ≡ 16 → length vs ≤ 12000
    → every (λ x. ltb x (2 ^ 64)) head ≡ true → every (λ x. ltb x (2 ^ 64)) vs ≡ true → put (put m screen_at vs) 0 head ≡ two_areas m head vs
two_put m head vs lm lh lv sh sv =
    let k = placed in
    let m₁ = over m screen_at vs in
    let l₁ = length_over m screen_at vs (omega arith) in
    ap (λ (x : List ℕ). put x 0 head) (put_over m screen_at vs (omega arith) sv) ∙ put_over m₁ 0 head (omega arith) sh
