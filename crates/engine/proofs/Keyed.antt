-- What the plain glass does with a key, where of the keys after the prefix d is known or none.
use Rattle.std.proofs.Common.{◌≡◌, ℕ, ◌≤◌, Bool, true, false, eqb, ◌⊎◌, List, [], ◌∷◌, length, sym, ap, ◌∙◌, inl, inr, arith}
use Rattle.std.proofs.lemmas.Bool.{ne_eqb, both_ways, cases_Bool, cases_eq}
use Rattle.meaning.specs.Panes.{Glass, Says, key, send, leave, turn, turn_of, command, with_prefix, current}
use Rattle.windows.specs.Parts.{left}

pub on_unseen : (known : ℕ → Bool) (g : Glass) (c : ℕ) → g.attached ≡ false → turn known g (key c) ≡ turn_of g []
unfolding turn
on_unseen known g c a = rw a

pub on_prefix : (known : ℕ → Bool) (g : Glass) (c : ℕ) → g.attached ≡ true → g.prefix ≡ false → c ≡ 1 → turn known g (key c) ≡ turn_of (with_prefix g true) []
unfolding turn
on_prefix known g c a p e = rw (a, p, e)

pub on_plain : (known : ℕ → Bool) (g : Glass) (c : ℕ) → g.attached ≡ true → g.prefix ≡ false → eqb c 1 ≡ false → turn known g (key c) ≡ turn_of g (send (current g).focus (c ∷ []) ∷ [])
unfolding turn
on_plain known g c a p e = rw (a, p, e)

-- after the prefix
pub on_again : (known : ℕ → Bool) (g : Glass) (c : ℕ) → g.attached ≡ true → g.prefix ≡ true → c ≡ 1
    → turn known g (key c) ≡ turn_of (with_prefix g false) (send (current (with_prefix g false)).focus (c ∷ []) ∷ [])
unfolding turn command
on_again known g c a p e = rw (a, p, e)

pub on_leave : (known : ℕ → Bool) (g : Glass) (c : ℕ) → g.attached ≡ true → g.prefix ≡ true → c ≡ 100 → known 100 ≡ true → turn known g (key c) ≡ turn_of (left g) (leave ∷ [])
unfolding turn command
on_leave known g c a p e k = rw (a, p, e, k)

pub on_other : (known : ℕ → Bool) (g : Glass) (c : ℕ) → g.attached ≡ true → g.prefix ≡ true → eqb c 1 ≡ false → known c ≡ false → turn known g (key c) ≡ turn_of (with_prefix g false) []
unfolding turn command
on_other known g c a p e f = rw (a, p, e, f)

-- with somebody who looks, or nobody, and with the prefix come, or not
abbrev pub looked : Glass → Bool → Bool → Glass
looked g a b = record { wide = g.wide; high = g.high; attached = a; windows = g.windows; at = g.at; panes = g.panes; next = g.next; prefix = b }

-- whatever the key, nothing else changes, and at most one thing is said
pub record KeyTurn (known : ℕ → Bool) (g : Glass) (c : ℕ) : Type 0 where
  pub attached : Bool
  pub prefix : Bool
  pub says : List Says
  pub turns : turn known g (key c) ≡ turn_of (looked g attached prefix) says
  pub one : length says ≤ 1

module _ (known : ℕ → Bool) (few : (c : ℕ) → (c ≡ 100 → ⊥) → known c ≡ false) where
  pub key_turn : (g : Glass) (c : ℕ) → KeyTurn known g c
  key_turn g c = go (cases_Bool g.attached) (cases_Bool g.prefix) (cases_eq c 1) (cases_Bool (known c))
    where
      to : (a b : Bool) (ss : List Says) → turn known g (key c) ≡ turn_of (looked g a b) ss → length ss ≤ 1 → KeyTurn known g c
      to a b ss e l = record { attached = a; prefix = b; says = ss; turns = e; one = l }

      -- a key that is known is d
      known_leaves : g.attached ≡ true → g.prefix ≡ true → known c ≡ true → (c ≡ 100) ⊎ (c ≡ 100 → ⊥) → KeyTurn known g c
      known_leaves a p k (inl d) = to false false _ (on_leave known g c a p d (ap known (sym d) ∙ k)) (omega arith)
      known_leaves a p k (inr n) = absurd (both_ways _ (few c n) k)

      go : (g.attached ≡ true) ⊎ (g.attached ≡ false) → (g.prefix ≡ true) ⊎ (g.prefix ≡ false) → (c ≡ 1) ⊎ (c ≡ 1 → ⊥) → (known c ≡ true) ⊎ (known c ≡ false) → KeyTurn known g c
      go (inr a) p e k = to g.attached g.prefix _ (on_unseen known g c a) (omega arith)
      go (inl a) (inr p) (inl e) k = to g.attached true _ (on_prefix known g c a p e) (omega arith)
      go (inl a) (inr p) (inr e) k = to g.attached g.prefix _ (on_plain known g c a p (ne_eqb c 1 e)) (omega arith)
      go (inl a) (inl p) (inl e) k = to g.attached false _ (on_again known g c a p e) (omega arith)
      go (inl a) (inl p) (inr e) (inl k) = known_leaves a p k (cases_eq c 100)
      go (inl a) (inl p) (inr e) (inr k) = to g.attached false _ (on_other known g c a p (ne_eqb c 1 e) k) (omega arith)
