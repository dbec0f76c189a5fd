-- The Popov form: the weak Popov form in ascending order, reduced and with monic pivots.
use Rattle.std.specs.Prelude.{◌≡◌, ◌≢◌, ◌⊎◌, ℕ, ◌≤◌, ◌<◌}
use Rattle.theory_algebra.specs.Ring.{CommRing}
use Rattle.theory_algebra.specs.Polynomial.{Below}
use Rattle.theory_lattice.specs.Term.{Term}
use Rattle.theory_lattice.specs.Row.{Row, coef, Null}
use Rattle.theory_reduction.specs.Pivot.{IsPivot}
use Rattle.theory_reduction.specs.WeakPopov.{WeakPopov}

-- "smaller pivot degree first, equal degrees by smaller pivot index"
abbrev pub Before : Term → Term → Type 0
Before s t = (s.deg < t.deg) ⊎ ((s.deg ≡ t.deg) × (s.col < t.col))

-- P with n rows and m columns is in Popov form, `lead i` being the leading term of the pivot of row i
pub record PopovForm {F : Type 0} (R : CommRing F) (n m : ℕ) (P : ℕ → Row F) : Type 0 where
  pub weak_popov : WeakPopov R n m P
  -- the first rows are not zero; "zero rows last"
  pub rank : ℕ
  pub rank_fits : rank ≤ n
  pub lead : ℕ → Term
  pub pivots : (i : ℕ) → i < rank → IsPivot R m (lead i) (P i)
  pub null : (i : ℕ) → rank ≤ i → i < n → Null R m (P i)
  -- "Put rows in ascending order"
  pub sorted : (i j : ℕ) → i < j → j < rank → Before (lead i) (lead j)
  -- "In P each pivot is monic and every other entry of its column has smaller degree."
  pub monic : (i : ℕ) → i < rank → coef (P i) (lead i) ≡ R.𝟙
  pub reduced : (i j : ℕ) → i < n → j < rank → i ≢ j → Below R (P i (lead j).col) (lead j).deg
