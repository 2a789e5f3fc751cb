-- Runs of a machine: one that comes to wait is put together from its steps, from the last to the first, so that no run is ever computed.
use Rattle.std.proofs.Common.{◌≡◌, ℕ, suc, ◌+◌, Bool, true, List, [], ◌∷◌, ◌++◌, length}
use Rattle.meaning.specs.Screen.{Term}
use Rattle.meaning.specs.Bytes.{written}
use Rattle.meaning.specs.Panes.{Says}
use Rattle.meaning.specs.Promise.{Engine, ToldIt, next, write, says, wait, Ran, ran, runs, one_act, a_row}

-- a run comes to wait after some number of steps, and then P holds of how it went
pub record Comes (e : Engine) (looked : Bool) (m : List ℕ) (told : ToldIt) (t : Term) (ss : List Says) (b : ℕ) (P : Ran → Type 0) : Type 0 where
  pub fuel : ℕ
  pub ends : (runs looked fuel e m told t ss b).end ≡ 0
  pub so : P (runs looked fuel e m told t ss b)

module _ (e : Engine) (looked : Bool) (P : Ran → Type 0) where
  pub comes_wait : (m : List ℕ) (told : ToldIt) (t : Term) (ss : List Says) (b : ℕ) (m₁ : List ℕ)
      → e.step m told ≡ record { memory = m₁; act = wait } → P (ran m₁ t ss b 0) → Comes e looked m told t ss b P
  unfolding runs one_act
  comes_wait m told t ss b m₁ h p = record { fuel = 1; ends = rw h; so = rw h p }

  pub comes_says : (m : List ℕ) (told : ToldIt) (t : Term) (ss : List Says) (b : ℕ) (m₁ : List ℕ) (s : Says)
      → e.step m told ≡ record { memory = m₁; act = says s } → Comes e looked m₁ next t (ss ++ s ∷ []) b P → Comes e looked m told t ss b P
  unfolding runs one_act
  comes_says m told t ss b m₁ s h c = record { fuel = suc c.fuel; ends = rw h c.ends; so = rw h c.so }

  pub comes_write : (m : List ℕ) (told : ToldIt) (t : Term) (ss : List Says) (b : ℕ) (m₁ : List ℕ) (bs : List ℕ)
      → e.step m told ≡ record { memory = m₁; act = write bs } → looked ≡ true → a_row bs ≡ true
      → Comes e looked m₁ next (written t bs) ss (b + length bs) P → Comes e looked m told t ss b P
  unfolding runs one_act
  comes_write m told t ss b m₁ bs h l a c = record { fuel = suc c.fuel; ends = rw (h, l, a) c.ends; so = rw (h, l, a) c.so }

pub comes_weaker : (e : Engine) (looked : Bool) (m : List ℕ) (told : ToldIt) (t : Term) (ss : List Says) (b : ℕ) (P Q : Ran → Type 0)
    → ((r : Ran) → P r → Q r) → Comes e looked m told t ss b P → Comes e looked m told t ss b Q
comes_weaker e looked m told t ss b P Q f c = record { fuel = c.fuel; ends = c.ends; so = f _ c.so }
