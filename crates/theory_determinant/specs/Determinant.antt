-- The determinant of a matrix over a commutative ring.
use Rattle.std.specs.Prelude.{ℕ, zero, suc, ◌+◌}
use Rattle.theory_algebra.specs.Ring.{CommRing}
use Rattle.theory_algebra.specs.Sum.{sum}
use Rattle.theory_algebra.specs.Matrix.{Mat}
use Rattle.theory_lists.specs.Skip.{skip}

module _ {F : Type 0} where
  -- A without row k
  abbrev pub without : ℕ → Mat F → Mat F
  without k A i = A (skip k i)

  -- A without its first row and without column j
  abbrev pub minor : ℕ → Mat F → Mat F
  minor j A i k = A (suc i) (skip j k)

module _ {F : Type 0} (R : CommRing F) where
  -- 1, -1, 1, -1 and so on
  abbrev pub sign_at : ℕ → F
  sign_at zero = R.𝟙
  sign_at (suc j) = R.neg (sign_at j)

  -- "Defined by expansion along the first row, a 1 by 1 matrix having its only entry": the determinant of the first n rows and columns of A.
  -- It is 1 where there are none, so that the expansion of a 1 by 1 matrix gives its entry.
  unfoldable pub det : ℕ → Mat F → F
  det zero A = R.𝟙
  det (suc n) A = sum R (suc n) (λ j. R.mul (sign_at j) (R.mul (A 0 j) (det n (minor j A))))

  -- Figure 4 of the report: "det := (-1)^(k+i+1) t det", where t is the entry of row k in the parted column i.
  -- There rows are counted from 1, here from 0.
  abbrev pub with_entry : ℕ → ℕ → Mat F → F → F
  with_entry k i T product = R.mul (sign_at (k + i)) (R.mul product (T k i))
