-- The rank of a matrix.
use Rattle.std.specs.Prelude.{◌≡◌, ℕ, zero, suc, ◌≤◌, ◌<◌}
use Rattle.theory_algebra.specs.Ring.{CommRing}
use Rattle.theory_algebra.specs.Field.{Field}
use Rattle.theory_algebra.specs.Polynomial.{IsPolynomial}
use Rattle.theory_lattice.specs.Row.{Row, Null, comb}
use Rattle.theory_lists.specs.Total.{total}
use Rattle.theory_reduction.specs.Pivot.{values}

-- 1 for every number but 0
abbrev pub sign : ℕ → ℕ
sign zero = 0
sign (suc v) = 1

-- of n rows those are chosen where z is not 0: how many are chosen
abbrev pub chosen : ℕ → (ℕ → ℕ) → ℕ
chosen n z = total n (λ i. sign (z i))

module _ {F : Type 0} (R : CommRing F) (n m : ℕ) where
  -- of the chosen rows "no polynomial combination vanishes but the trivial one"
  abbrev pub Independent : (ℕ → ℕ) → (ℕ → Row F) → Type 0
  Independent z A = (q : ℕ → ℕ → F) → ((i : ℕ) → i < n → IsPolynomial R (q i)) → ((i : ℕ) → i < n → z i ≡ 0 → q i ≡ (λ _. R.𝟘))
      → Null R m (comb R n q A) → (i : ℕ) → i < n → q i ≡ (λ _. R.𝟘)

  -- r is "the rank of A (the largest number of rows of A of which no polynomial combination vanishes but the trivial one)"
  pub record IsRank (A : ℕ → Row F) (r : ℕ) : Type 0 where
    pub rows : ℕ → ℕ
    pub many : chosen n rows ≡ r
    pub independent : Independent rows A
    pub largest : (z : ℕ → ℕ) → Independent z A → chosen n z ≤ r

-- "Rank: the number of non-zero rows of R."
abbrev pub rank : {F : Type 0} → Field F → ℕ → ℕ → ℕ → (ℕ → Row F) → ℕ
rank K n m size M = chosen n (values K m size M)
