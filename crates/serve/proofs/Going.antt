-- Where the loop that serves one thing stands, and what one more step of it does.
use Rattle.std.proofs.Common.{◌≡◌, ℕ, suc, ◌+◌, ◌-◌, ◌*◌, ◌%◌, ◌<◌, Bool, true, false, List, Ok, Err, ◌++◌, length, take, drop, sym, refl, ap, ◌∙◌, subst, arith}
use native.Mathlib.Nat.{mul-add-mod_self_left, mod-le}
use Rattle.std.proofs.lemmas.List.{take_at, take-append-le}
use Rattle.meaning.specs.Words.{pick}
use Rattle.meaning.specs.Panes.{Says, send, start, sized, stop, leave, over}
use Rattle.meaning.specs.Promise.{Engine, ToldIt, next, Act, write, says, wait}
use Rattle.meaning.specs.Entry.{ActTold, SaysTold}
use Rattle.meaning.specs.declared.answer.Told.{Told}
use Rattle.meaning.specs.declared.answer.Told.TheVariants.{Write, Send, Start, Size, Stop, Leave, Over, Wait, No}
use Rattle.live.specs.Coming.{ToldSays}
use Rattle.serve.specs.declared.ended.Ended.TheVariants.{Waits}
use Rattle.serve.specs.declared.ended.Ended.TheVariants as ends
use Rattle.serve.specs.declared.ended.Fault.TheVariants.{Stuck, Refused}
use Rattle.serve.specs.Log.{Log, kept}
use Rattle.serve.specs.Serving.{Went, went, act_done, goes, sizes_fit}

-- what is left to do gives the whole; and what fits once fits to the end
pub record Left (e : Engine) (all : Went) (fit : Bool) (left : ℕ) (m : List ℕ) (t : ToldIt) (out : List ℕ) (l : Log) (ended : Bool) : Type 0 where
  pub so : goes fit left e m t l ended ≡ all
  pub fits : sizes_fit e m out ≡ fit

-- how it goes on after an act, by what was told
abbrev pub told_done : (List ℕ → Log → Bool → Went) → List ℕ → Log → Bool → Told → Went
told_done go m l ended (Write n) = go m l ended
told_done go m l ended (Send n) = go m l ended
told_done go m l ended (Start n) = go m l ended
told_done go m l ended (Size n) = go m l ended
told_done go m l ended (Stop n) = go m l ended
told_done go m l ended Leave = go m l ended
told_done go m l ended Over = go m l true
told_done go m l ended Wait = went m l (Ok (pick ended ends.Over Waits))
told_done go m l ended (No n) = go m l ended

-- what was told puts the act into the log
module _ (go : List ℕ → Log → Bool → Went) (m : List ℕ) (l : Log) (ended : Bool) (out : List ℕ) where
  abbrev As : Act → Told → List ℕ → Type 0
  As act r out₁ = act_done go m l ended act ≡ told_done go m (kept l r out₁) ended r

  write_as : (bs out₁ : List ℕ) → out₁ ≡ bs ++ drop (length bs) out → As (write bs) (Write (length bs)) out₁
  write_as bs out₁ e = let t : take (length bs) out₁ ≡ bs = ap (take (length bs)) e ∙ take_at bs _ _ refl in rw t

  send_as : (i : ℕ) (bs out₁ : List ℕ) → out₁ ≡ bs ++ drop (length bs) out → As (says (send i bs)) (Send (65536 * i + length bs)) out₁
  send_as i bs out₁ e =
      let k = mul-add-mod_self_left 65536 i (length bs) in
      let t : take (length bs % 65536) out₁ ≡ take (length bs % 65536) bs = ap (take (length bs % 65536)) e ∙ take-append-le _ bs _ (mod-le (length bs) 65536) in
      rw (k, t)

  -- such a pair is all that Says-told is
  said_as : (s : Says) (r : Told) (out₁ : List ℕ) → SaysTold s r out out₁ → As (says s) r out₁
  unfolding SaysTold
  said_as (send i bs) r out₁ p = subst (λ (x : Told). As (says (send i bs)) x out₁) (sym p.0) (send_as i bs out₁ p.1)
  said_as (start i w h) r out₁ p = subst (λ (x : Told). As (says (start i w h)) x out₁) (sym p.0) refl
  said_as (sized i w h) r out₁ p = subst (λ (x : Told). As (says (sized i w h)) x out₁) (sym p.0) refl
  said_as (stop i) r out₁ p = subst (λ (x : Told). As (says (stop i)) x out₁) (sym p.0) refl
  said_as leave r out₁ p = subst (λ (x : Told). As (says leave) x out₁) (sym p.0) refl
  said_as over r out₁ p = subst (λ (x : Told). As (says over) x out₁) (sym p.0) refl

  done_as : (act : Act) (r : Told) (out₁ : List ℕ) → ActTold act r out out₁ → As act r out₁
  unfolding ActTold
  done_as (write bs) r out₁ p = subst (λ (x : Told). As (write bs) x out₁) (sym p.0) (write_as bs out₁ p.1)
  done_as (says s) r out₁ p = said_as s r out₁ p
  done_as wait r out₁ p = subst (λ (x : Told). As wait x out₁) (sym p.0) refl

-- after all that is told but a wait and the end of all it goes on as it is
other_told : (go : List ℕ → Log → Bool → Went) (m : List ℕ) (l : Log) (ended : Bool) (r : Told) → (r ≡ Wait → ⊥) → (r ≡ Over → ⊥) → told_done go m l ended r ≡ go m l ended
other_told go m l ended (Write n) f g = refl
other_told go m l ended (Send n) f g = refl
other_told go m l ended (Start n) f g = refl
other_told go m l ended (Size n) f g = refl
other_told go m l ended (Stop n) f g = refl
other_told go m l ended Leave f g = refl
other_told go m l ended Over f g = absurd (g refl)
other_told go m l ended Wait f g = absurd (f refl)
other_told go m l ended (No n) f g = refl

-- an act is never told as a refusal
says_not_no : (s : Says) (n : ℕ) (out out₁ : List ℕ) → SaysTold s (No n) out out₁ → ⊥
unfolding SaysTold
says_not_no (send i bs) n out out₁ p = let e = p.0 in let z : ◌≡◌ {A = ℕ} 0 1 = cc in omega arith
says_not_no (start i w h) n out out₁ p = let e = p.0 in let z : ◌≡◌ {A = ℕ} 0 1 = cc in omega arith
says_not_no (sized i w h) n out out₁ p = let e = p.0 in let z : ◌≡◌ {A = ℕ} 0 1 = cc in omega arith
says_not_no (stop i) n out out₁ p = let e = p.0 in let z : ◌≡◌ {A = ℕ} 0 1 = cc in omega arith
says_not_no leave n out out₁ p = let e = p.0 in let z : ◌≡◌ {A = ℕ} 0 1 = cc in omega arith
says_not_no over n out out₁ p = let e = p.0 in let z : ◌≡◌ {A = ℕ} 0 1 = cc in omega arith

act_not_no : (act : Act) (n : ℕ) (out out₁ : List ℕ) → ActTold act (No n) out out₁ → ⊥
unfolding ActTold
act_not_no (write bs) n out out₁ p = let e = p.0 in let z : ◌≡◌ {A = ℕ} 0 1 = cc in omega arith
act_not_no (says s) n out out₁ p = says_not_no s n out out₁ p
act_not_no wait n out out₁ p = let e = p.0 in let z : ◌≡◌ {A = ℕ} 0 1 = cc in omega arith

-- one step of e, told r, with n more to come if it is not the last
module _ (e : Engine) (all : Went) (fit : Bool) (left : ℕ) (m : List ℕ) (t : ToldIt) (out : List ℕ) (l : Log) (ended : Bool) (some : 0 < left)
    (inv : Left e all fit left m t out l ended) (r : Told) (m₁ out₁ : List ℕ) (step : ToldSays e t m out (sizes_fit e m out) r m₁ out₁) where
  -- how it goes on from what this step leaves
  abbrev rest : Bool → List ℕ → Log → Bool → Went
  rest f m₂ l₂ ended₂ = goes f (left - 1) e m₂ next l₂ ended₂

  stepped : ToldSays e t m out fit r m₁ out₁
  stepped = subst (λ (f : Bool). ToldSays e t m out f r m₁ out₁) inv.fits step

  one_less : goes fit (suc (left - 1)) e m t l ended ≡ all
  one_less = let s : suc (left - 1) ≡ left = omega arith in rw s inv.so

  refused_at : (f : Bool) (n : ℕ) → ToldSays e t m out f (No n) m₁ out₁ → goes f (suc (left - 1)) e m t l ended ≡ went m₁ l (Err Refused)
  unfolding ToldSays goes
  refused_at true n p = absurd (act_not_no _ n out out₁ p.1)
  refused_at false n p = ap (λ (x : List ℕ). went x l (Err Refused)) (sym p.1)

  pub refused : (n : ℕ) → r ≡ No n → went m₁ l (Err Refused) ≡ all
  refused n q = sym (refused_at fit n (subst (λ (x : Told). ToldSays e t m out fit x m₁ out₁) q stepped)) ∙ one_less

  goes_at : (f : Bool) → ((n : ℕ) → r ≡ No n → ⊥) → ToldSays e t m out f r m₁ out₁
      → goes f (suc (left - 1)) e m t l ended ≡ told_done (rest f) m₁ (kept l r out₁) ended r
  unfolding ToldSays goes
  goes_at true fine p =
      subst (λ (x : List ℕ). act_done (rest true) (e.step m t).memory l ended (e.step m t).act ≡ told_done (rest true) x (kept l r out₁) ended r)
      (sym p.0) (done_as (rest true) _ l ended out _ r out₁ p.1)
  goes_at false fine p = absurd (fine 0 p.0)

  pub goes_so : ((n : ℕ) → r ≡ No n → ⊥) → told_done (rest fit) m₁ (kept l r out₁) ended r ≡ all
  goes_so fine = sym (goes_at fit fine stepped) ∙ one_less

  -- it waits, and the log has got that
  pub waited : (l₁ : Log) → l₁ ≡ kept l r out₁ → r ≡ Wait → went m₁ l₁ (Ok (pick ended ends.Over Waits)) ≡ all
  waited l₁ k q =
      let fine : (n : ℕ) → r ≡ No n → ⊥ = λ n p. (let z : ◌≡◌ {A = ℕ} 0 1 = cc in omega arith) in
      ap (λ (x : Log). went m₁ x (Ok (pick ended ends.Over Waits))) k
      ∙ (ap (λ (x : Told). told_done (rest fit) m₁ (kept l r out₁) ended x) (sym q) ∙ goes_so fine)

  -- it goes on, told to do so
  module _ (l₁ : Log) (k : l₁ ≡ kept l r out₁) (p : length m₁ ≡ length m) (q : length out₁ ≡ length out) (fine : (n : ℕ) → r ≡ No n → ⊥) where
    gone_on : (ended₁ : Bool) → told_done (rest fit) m₁ (kept l r out₁) ended r ≡ rest fit m₁ (kept l r out₁) ended₁
        → Left e all fit (left - 1) m₁ next out₁ l₁ ended₁
    gone_on ended₁ s = record { so = ap (λ (x : Log). rest fit m₁ x ended₁) k ∙ (sym s ∙ goes_so fine); fits = rw (p, q) inv.fits }

    pub on_over : (ended₁ : Bool) → ended₁ ≡ true → r ≡ Over → Left e all fit (left - 1) m₁ next out₁ l₁ ended₁
    on_over ended₁ s o =
        gone_on ended₁ (ap (told_done (rest fit) m₁ (kept l r out₁) ended) o ∙ ap (rest fit m₁ (kept l r out₁)) (sym s))

    pub on_other : (ended₁ : Bool) → ended₁ ≡ ended → (r ≡ Wait → ⊥) → (r ≡ Over → ⊥) → Left e all fit (left - 1) m₁ next out₁ l₁ ended₁
    on_other ended₁ s f g = gone_on ended₁ (other_told (rest fit) m₁ (kept l r out₁) ended r f g ∙ ap (rest fit m₁ (kept l r out₁)) (sym s))

-- no step is left
pub out_of_steps : (e : Engine) (all : Went) (fit : Bool) (left : ℕ) (m : List ℕ) (t : ToldIt) (out : List ℕ) (l : Log) (ended : Bool) → left ≡ 0
    → Left e all fit left m t out l ended → went m l (Err Stuck) ≡ all
unfolding goes
out_of_steps e all fit left m t out l ended z inv =
    let g = ap (λ (n : ℕ). goes fit n e m t l ended) z in sym g ∙ inv.so
