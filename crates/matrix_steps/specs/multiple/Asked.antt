-- What has to hold lest a multiple of a row cannot be found.
use Rattle.std.specs.Prelude.{List, ℕ, ◌+◌, ◌*◌, ◌≤◌, ◌<◌, length}
use Rattle.theory_algebra.specs.Prime.{Prime}
use Rattle.theory_lists.specs.Coefficients.{Coefficients}
use Rattle.matrix_pivots.specs.declared.pivot.Pivot.{Pivot}
use Rattle.matrix_steps.specs.multiple.Factor.{leading_at}

-- row i lies in r, and x and h are a column and a height
pub record CoefficientAsked (m w i x h : ℕ) (r : List ℕ) : Type 0 where
  pub row : i * (m * w) + m * w ≤ length r
  pub column : 0 < x
  pub column_most : x ≤ m
  pub height : 0 < h
  pub height_most : h ≤ w

-- residues of which b is not 0
pub record DivideAsked (p a b : ℕ) : Type 0 where
  pub prime : Prime p
  pub dividend : a < p
  pub divisor : b < p
  pub nonzero : 0 < b

-- row i is not zero: it has the pivot x, and its leading coefficient is not 0
pub record PivotAsked (m w i : ℕ) (x : Pivot) (r : List ℕ) : Type 0 where
  pub leading : CoefficientAsked m w i x.index.0 x.degree.0 r
  pub nonzero : 0 < leading_at m w r i x

-- two such rows, of which l is the higher
pub record PlanAsked (p m w l k : ℕ) (high low : Pivot) (r : List ℕ) : Type 0 where
  pub prime : Prime p
  pub residues : Coefficients p r
  pub l_pivot : PivotAsked m w l high r
  pub k_pivot : PivotAsked m w k low r
  pub order : low.degree.0 ≤ high.degree.0
