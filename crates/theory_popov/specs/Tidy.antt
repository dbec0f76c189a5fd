-- Matrices whose rows ascend, by their values.
use Rattle.std.specs.Prelude.{◌≡◌, ℕ, ◌≤◌, ◌<◌}
use Rattle.theory_algebra.specs.Field.{Field}
use Rattle.theory_lattice.specs.Row.{Row}
use Rattle.theory_lattice.specs.PolynomialMatrix.{AllBounded}
use Rattle.theory_reduction.specs.Pivot.{values}
use Rattle.theory_reduction.specs.Pair.{NoPair}

-- of n rows of the values v the first r are not zero, and their values ascend; no two have one pivot index
pub record Ascending (n m r : ℕ) (v : ℕ → ℕ) : Type 0 where
  pub rank_fits : r ≤ n
  pub some : (i : ℕ) → i < r → 0 < v i
  pub none : (i : ℕ) → r ≤ i → i < n → v i ≡ 0
  pub ascending : (i j : ℕ) → i < j → j < r → v i < v j
  pub apart : NoPair n m v

-- a matrix whose rows do so
pub record Tidy {F : Type 0} (K : Field F) (n m size r : ℕ) (M : ℕ → Row F) : Type 0 where
  pub bounded : AllBounded K.ring n m size M
  pub ascends : Ascending n m r (values K m size M)
