-- What is proved of the reduction of a matrix A of n rows and m columns, its polynomials having `size` = d + 1 places.
use Rattle.std.specs.Prelude.{ℕ, suc, ◌+◌, ◌-◌, ◌*◌, ◌≤◌, ◌<◌}
use Rattle.theory_algebra.specs.Field.{Field}
use Rattle.theory_algebra.specs.Polynomial.{Below}
use Rattle.theory_lattice.specs.Row.{Row}
use Rattle.theory_lattice.specs.PolynomialMatrix.{AllBounded, Transformed}
use Rattle.theory_reduction.specs.Pivot.{values}
use Rattle.theory_reduction.specs.WeakPopov.{WeakPopov}
use Rattle.theory_reduction.specs.Step.{Carried}
use Rattle.theory_reduction.specs.State.{state}
use Rattle.theory_reduction.specs.Rank.{Independent, IsRank, rank}

-- t is reached from A after `count` steps
pub record ReductionFacts {F : Type 0} (K : Field F) (n m size : ℕ) (A : ℕ → Row F) (count : ℕ) (t : Carried F) : Type 0 where
  pub weak_popov : WeakPopov K.ring n m t.R
  pub bounded : AllBounded K.ring n m size t.R
  -- U·A = R, V·R = A, U·V = V·U = 1
  pub transformed : Transformed K.ring n m A t.R t.U t.V'
  -- "U needs no degree above n(d+1)-1 and V none above d": for U the sharp bound (n-1)d
  pub u_degrees : (i j : ℕ) → i < n → j < n → Below K.ring (t.U i j) (suc ((n - 1) * (size - 1)))
  pub v_degrees : (i j : ℕ) → i < n → j < n → Below K.ring (t.V' i j) size
  -- "the count is at most the state of A less the state of R. With rank r the count is at most n·r·(d+1)."
  pub count_state : count + state K n m size t.R ≤ state K n m size A
  pub count_rank : count ≤ n * (rank K n m size t.R * size)
  -- "That this is the rank of A […] is proved."
  pub rank_is : IsRank K.ring n m A (rank K n m size t.R)
  -- "the independent rows of A, as the numbers of the rows that are not zero in R"
  pub listed : Independent K.ring n m (values K m size t.R) A
