-- The determinant worked out by stages, as in section 3 of the report. In the stage of m columns, m + 1 rows are reduced in their first m
-- columns while column m, the parted one, follows; then a row is zero but for that column, and is taken out with its last entry as a
-- factor.
use Rattle.std.specs.Prelude.{◌≡◌, ℕ, suc, ◌+◌, ◌-◌, ◌≤◌, ◌<◌}
use Rattle.theory_algebra.specs.Field.{Field}
use Rattle.theory_algebra.specs.Polynomial.{Below}
use Rattle.theory_rings.specs.Series.{series}
use Rattle.theory_lattice.specs.Row.{Row}
use Rattle.theory_lattice.specs.PolynomialMatrix.{AllBounded}
use Rattle.theory_lists.specs.Total.{total}
use Rattle.theory_reduction.specs.Narrow.{pivot_degree}
use Rattle.theory_determinant.specs.Determinant.{det}

-- the pivot degrees of the m + 1 rows of T in its first m columns, together
abbrev pub degrees : {F : Type 0} → Field F → ℕ → ℕ → (ℕ → Row F) → ℕ
degrees K size m T = total (suc m) (pivot_degree K (suc m) m size T)

-- What is known at every moment of the stage of m columns. The degree of the whole determinant is at most B. The budget E is what the pivot
-- degrees of the rows were together at the start of the stage: with every step they fall, and what they have lost of E is how far
-- the parted column may have grown. What was taken out before has used up the rest of B, so that all of it fits n·d + 1 places.
pub record Stage {F : Type 0} (K : Field F) (size B : ℕ) (whole : ℕ → F) (E m : ℕ) (T : ℕ → Row F) (product : ℕ → F) : Type 0 where
  -- `product`, of the entries taken out so far, times the determinant of T is the whole
  pub value : (series K.ring).mul product (det (series K.ring) (suc m) T) ≡ whole
  pub bounded : AllBounded K.ring (suc m) m size T
  pub within : E ≤ B
  pub less : degrees K size m T ≤ E
  pub column : (s : ℕ) → s < suc m → Below K.ring (T s m) (suc (pivot_degree K (suc m) m size T s + (E - degrees K size m T)))
  pub product_below : Below K.ring product (suc (B - E))
