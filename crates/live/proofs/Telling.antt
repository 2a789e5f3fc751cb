-- What has come, by the numbers that a step is told, and what of it is proper.
use Rattle.std.proofs.Common.{◌≡◌, ℕ, suc, ◌<◌, ◌≤◌, Bool, true, false, ◌&&◌, ltb, leb, List, [], ◌∷◌, length, Some, None, Option, IsSome, MatchOption, rules, get_or, sym, refl, ap, subst, arith, w8, Fits}
use Rattle.std.proofs.lemmas.Bool.{and_from, and_parts, lt-ltb, le-ltb, leb-true, both_ways}
use Rattle.std.proofs.lemmas.Bool.Decides.{nat_tests}
use Rattle.meaning.specs.Words.{every}
use Rattle.meaning.specs.Panes.{key, from, gone, attach}
use Rattle.meaning.specs.Promise.{comes, next, proper_event}
use Rattle.meaning.specs.Entry.{told_of}
use Rattle.grid.specs.declared.size.Size.{Size}
use Rattle.live.specs.Coming.{event_of}
use Rattle.live.specs.declared.coming.Coming.{Coming}
use Rattle.live.specs.declared.coming.Coming.TheVariants.{Key, From, Gone, Look}

pub told_key : (k a b : ℕ) (bs : List ℕ) → k ≡ 0 → comes (key a) ≡ told_of k a b bs
unfolding told_of
told_key k a b bs e = sym (ap (λ (z : ℕ). told_of z a b bs) e)

pub told_from : (k a b : ℕ) (bs : List ℕ) → k ≡ 1 → comes (from a bs) ≡ told_of k a b bs
unfolding told_of
told_from k a b bs e = sym (ap (λ (z : ℕ). told_of z a b bs) e)

pub told_gone : (k a b : ℕ) (bs : List ℕ) → k ≡ 2 → comes (gone a) ≡ told_of k a b bs
unfolding told_of
told_gone k a b bs e = sym (ap (λ (z : ℕ). told_of z a b bs) e)

pub told_attach : (k a b : ℕ) (bs : List ℕ) → k ≡ 3 → comes (attach a b) ≡ told_of k a b bs
unfolding told_of
told_attach k a b bs e = sym (ap (λ (z : ℕ). told_of z a b bs) e)

pub told_next : (k a b : ℕ) (bs : List ℕ) → k ≡ 4 → next ≡ told_of k a b bs
unfolding told_of
told_next k a b bs e = sym (ap (λ (z : ℕ). told_of z a b bs) e)

-- what a slice of bytes holds are bytes
pub bytes_from_fits : (bs : List ℕ) → ((i : ℕ) → Fits w8 (get_or bs i 0)) → every (λ b. ltb b 256) bs ≡ true
bytes_from_fits [] f = refl
bytes_from_fits (b ∷ bs) f = and_from (ltb b 256) _ (lt-ltb b 256 (f 0).fits) (bytes_from_fits bs (λ i. f (suc i)))

and_true : (a b : Bool) → b ≡ true → a ≡ (a && b)
and_true true b e = sym e
and_true false b e = refl

-- what is proper, and what is not
pub key_proper : (x : Coming) (bs : List ℕ) (c : ℕ) (b : Bool) → x ≡ Key c → b ≡ ltb c 256 → b ≡ proper_event (event_of x bs)
unfolding proper_event
key_proper x bs c b e q = rw e q

pub from_proper : (x : Coming) (bs : List ℕ) (i : ℕ) → x ≡ From i → ((j : ℕ) → Fits w8 (get_or bs j 0)) → leb (length bs) 4096 ≡ proper_event (event_of x bs)
unfolding proper_event
from_proper x bs i e f = rw e (and_true (leb (length bs) 4096) _ (bytes_from_fits bs f))

pub gone_proper : (x : Coming) (bs : List ℕ) (i : ℕ) → x ≡ Gone i → true ≡ proper_event (event_of x bs)
unfolding proper_event
gone_proper x bs i e = rw e

pub look_proper : (x : Coming) (bs : List ℕ) (w h : ℕ) (b : Bool) → x ≡ Look w h → b ≡ ((leb 1 w && leb w 200) && (leb 2 h && leb h 60)) → b ≡ proper_event (event_of x bs)
unfolding proper_event
look_proper x bs w h b e q = rw e q

pub odd_key : (c : ℕ) → (c < 256 → ⊥) → proper_event (key c) ≡ false
unfolding proper_event
odd_key c h = le-ltb c 256 (omega arith)

pub few_bytes : (x : Coming) (bs : List ℕ) (i : ℕ) → x ≡ From i → proper_event (event_of x bs) ≡ true → length bs ≤ 4096
unfolding proper_event
few_bytes x bs i e p = leb-true _ _ (and_parts (leb (length bs) 4096) _ (subst (λ (y : Coming). proper_event (event_of y bs) ≡ true) e p)).0

-- a size that a screen can have
pub some_size : (o : Option Size) (b : Bool) (P : Size → Type 0) → MatchOption o (b ≡ false) P → b ≡ true → IsSome o
some_size None b P h e = absurd (both_ways b h e)
some_size (Some s) b P h e = search rules

pub proper_size : (w h : ℕ) → proper_event (attach w h) ≡ true → (ltb 0 w && (leb w 200 && (ltb 0 h && leb h 60))) ≡ true
unfolding proper_event
proper_size w h e = grind (arith, nat_tests)
