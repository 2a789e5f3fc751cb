-- The plain glass with no key after the prefix known, or d alone: it has one window with one pane, or none; what each thing that comes does to it.
use Rattle.std.proofs.Common.{◌≡◌, ℕ, suc, ◌-◌, ◌≤◌, Bool, true, false, eqb, ◌⊎◌, List, [], ◌∷◌, length, sym, refl, ap, subst, inl, inr, arith}
use Rattle.std.proofs.lemmas.Bool.{eq-eqb, ne_eqb, cases_Bool}
use Rattle.meaning.specs.Words.{pick, none_of}
use Rattle.meaning.specs.Screen.{Term, with_answer, fresh, fitted}
use Rattle.meaning.specs.Bytes.{written}
use Rattle.meaning.specs.Panes.{Glass, key, from, gone, attach, Turn, send, over, turn, fit_places, settled, places, pane, Rect, rect, pane_wide, pane_high, as_large, on_bytes, without, ids, gone_before}
use Rattle.engine.proofs.Keyed.{key_turn}

-- one window with one pane
pub record One : Type 0 where
  pub wide : ℕ
  pub high : ℕ
  pub attached : Bool
  pub id : ℕ
  pub term : Term
  pub next : ℕ
  pub prefix : Bool

abbrev pub one_glass : One → Glass
one_glass u = record {
  wide = u.wide;
  high = u.high;
  attached = u.attached;
  windows = record { layout = pane u.id; focus = u.id } ∷ [];
  at = 0;
  panes = record { id = u.id; term = u.term } ∷ [];
  next = u.next;
  prefix = u.prefix;
}

-- no window
abbrev pub empty : ℕ → ℕ → Bool → ℕ → Bool → Glass
empty w h a n p = record { wide = w; high = h; attached = a; windows = []; at = 0; panes = []; next = n; prefix = p }

-- with somebody who looks, or nobody, and with the prefix come, or not
abbrev pub with_look : One → Bool → Bool → One
with_look u a b = record { wide = u.wide; high = u.high; attached = a; id = u.id; term = u.term; next = u.next; prefix = b }

abbrev pub with_term : One → Term → One
with_term u t = record { wide = u.wide; high = u.high; attached = u.attached; id = u.id; term = t; next = u.next; prefix = u.prefix }

-- all but the last row
abbrev pub room_of : ℕ → ℕ → Rect
room_of w h = rect 0 0 w (h - 1)

abbrev pub resized : One → ℕ → ℕ → One
resized u w h = record {
  wide = w;
  high = h;
  attached = true;
  id = u.id;
  term = pick (as_large (room_of w h) u.term) u.term (fitted u.term (pane_wide (room_of w h)) (pane_high (room_of w h)));
  next = u.next;
  prefix = false;
}

abbrev pub started : ℕ → ℕ → ℕ → One
started w h n = record { wide = w; high = h; attached = true; id = n; term = fresh (pane_wide (room_of w h)) (pane_high (room_of w h)); next = suc n; prefix = false }

self : (n : ℕ) → eqb n n ≡ true
self n = eq-eqb n n refl

-- a key: the prefix comes or is forgotten, or nobody looks any more, and at most one thing is said
abbrev KeyNext : Turn → One → Type 0
KeyNext t u = (a b : Bool) × (t.next ≡ one_glass (with_look u a b)) × (length t.says ≤ 1)

-- with no window, only somebody who attaches changes more than the prefix and whether somebody looks
abbrev KeyEmpty : Turn → (w h n : ℕ) → Type 0
KeyEmpty t w h n = (a b : Bool) × (t.next ≡ empty w h a n b) × (length t.says ≤ 1)

module _ (known : ℕ → Bool) (few : (c : ℕ) → (c ≡ 100 → ⊥) → known c ≡ false) where
  pub key_next : (u : One) (c : ℕ) → KeyNext (turn known (one_glass u) (key c)) u
  key_next u c =
      let k = key_turn known few (one_glass u) c in
      (k.attached, k.prefix, ap (λ (t : Turn). t.next) k.turns, subst (λ (t : Turn). length t.says ≤ 1) (sym k.turns) k.one)

  -- another size
  pub attach_next : (u : One) (w h : ℕ) → ((turn known (one_glass u) (attach w h)).next ≡ one_glass (resized u w h)) × (length (turn known (one_glass u) (attach w h)).says ≤ 1)
  unfolding turn settled fit_places places
  attach_next u w h = go (cases_Bool (as_large (room_of w h) u.term))
    where
      go : (as_large (room_of w h) u.term ≡ true) ⊎ (as_large (room_of w h) u.term ≡ false)
          → ((turn known (one_glass u) (attach w h)).next ≡ one_glass (resized u w h)) × (length (turn known (one_glass u) (attach w h)).says ≤ 1)
      go (inl a) = (simp (self u.id, a), simp (self u.id, a) (omega arith))
      go (inr a) = (simp (self u.id, a), simp (self u.id, a) (omega arith))

  -- bytes from the pane's program, and from another
  pub from_next : (u : One) (bs : List ℕ) → (turn known (one_glass u) (from u.id bs)).next ≡ one_glass (with_term u (with_answer (written u.term bs) []))
  unfolding turn on_bytes
  from_next u bs = simp (self u.id)

  pub from_other : (u : One) (i : ℕ) (bs : List ℕ) → (u.id ≡ i → ⊥) → ((turn known (one_glass u) (from i bs)).next ≡ one_glass u) × ((turn known (one_glass u) (from i bs)).says ≡ [])
  unfolding turn on_bytes
  from_other u i bs n = let e = ne_eqb u.id i n in (simp e, simp e)

  -- its end, and another's
  pub gone_next : (u : One) → ((turn known (one_glass u) (gone u.id)).next ≡ empty u.wide u.high u.attached u.next u.prefix) × ((turn known (one_glass u) (gone u.id)).says ≡ over ∷ [])
  unfolding turn settled fit_places places without gone_before ids
  gone_next u = (simp (self u.id), simp (self u.id))

  pub gone_other : (u : One) (i : ℕ) → (u.id ≡ i → ⊥) → ((turn known (one_glass u) (gone i)).next ≡ one_glass u) × ((turn known (one_glass u) (gone i)).says ≡ [])
  unfolding turn
  gone_other u i n = let e = ne_eqb u.id i n in (simp e, simp e)

  -- the first who looks
  pub first_attach : (w h w₁ h₁ n : ℕ) (a p : Bool)
      → ((turn known (empty w₁ h₁ a n p) (attach w h)).next ≡ one_glass (started w h n)) × (length (turn known (empty w₁ h₁ a n p) (attach w h)).says ≤ 1)
  unfolding turn settled fit_places places
  first_attach w h w₁ h₁ n a p =
      (simp (self n, self (pane_wide (room_of w h)), self (pane_high (room_of w h))), simp (self n, self (pane_wide (room_of w h)), self (pane_high (room_of w h))) (omega arith))

  pub key_empty : (w h n : ℕ) (a p : Bool) (c : ℕ) → KeyEmpty (turn known (empty w h a n p) (key c)) w h n
  key_empty w h n a p c =
      let k = key_turn known few (empty w h a n p) c in
      (k.attached, k.prefix, ap (λ (t : Turn). t.next) k.turns, subst (λ (t : Turn). length t.says ≤ 1) (sym k.turns) k.one)

  pub from_empty : (w h n : ℕ) (a p : Bool) (i : ℕ) (bs : List ℕ) → ((turn known (empty w h a n p) (from i bs)).next ≡ empty w h a n p) × ((turn known (empty w h a n p) (from i bs)).says ≡ [])
  unfolding turn on_bytes
  from_empty w h n a p i bs = (refl, refl)

  pub gone_empty : (w h n : ℕ) (a p : Bool) (i : ℕ) → ((turn known (empty w h a n p) (gone i)).next ≡ empty w h a n p) × ((turn known (empty w h a n p) (gone i)).says ≡ [])
  unfolding turn
  gone_empty w h n a p i = (refl, refl)

  -- what a program is answered is one saying, or none
  pub from_says : (u : One) (bs : List ℕ) → length (turn known (one_glass u) (from u.id bs)).says ≤ 1
  unfolding turn on_bytes
  from_says u bs = simp (self u.id) (one (none_of (written u.term bs).answer) _ _)
    where
      one : (b : Bool) (i : ℕ) (xs : List ℕ) → length (pick b [] (send i xs ∷ [])) ≤ 1
      one true i xs = omega arith
      one false i xs = omega arith
