-- The loop over keys: what comes of those that are left comes of all.
use Rattle.std.proofs.Common.{◌≡◌, ℕ, ◌+◌, ◌<◌, ◌≤◌, Bool, true, false, List, map, length, get_or, drop, sym, refl, inl, inr, subst}
use Rattle.std.proofs.lemmas.List.{at_drop_more, at_drop_all}
use Rattle.meaning.specs.Panes.{Event, key}
use Rattle.following.specs.Following.{Until}

module _ {S : Type 0} (comes : S → Event → Bool → S → Type 0) (codes : List ℕ) (first s : S) (i : ℕ) where
  abbrev pub Leads : Type 0
  Leads = (over : Bool) (t : S) → Until comes s (map key (drop i codes)) over t → Until comes first (map key codes) over t

  pub over_here : (t : S) (d : ℕ) (b : Bool) → b ≡ true → i < length codes → comes s (key (get_or codes i d)) b t → Leads → Until comes first (map key codes) true t
  over_here t d b e h k₁ leads = let k = rw e at k₁ in leads true t (subst (λ es. Until comes s es true t) (sym (at_drop_more (map key) codes i d h)) (inl (refl, k)))

  pub none_left : length codes ≤ i → Leads → Until comes first (map key codes) false s
  none_left h leads = leads false s (subst (λ es. Until comes s es false s) (sym (at_drop_all (map key) codes i h)) (refl, refl))

pub goes_on : {S : Type 0} (comes : S → Event → Bool → S → Type 0) (codes : List ℕ) (first s u : S) (i d : ℕ) (b : Bool) → b ≡ false → i < length codes → comes s (key (get_or codes i d)) b u → Leads comes codes first s i → Leads comes codes first u (i + 1)
goes_on comes codes first s u i d b e h k₁ leads over t w = let k = rw e at k₁ in leads over t (subst (λ es. Until comes s es over t) (sym (at_drop_more (map key) codes i d h)) (inr (u, k, w)))
