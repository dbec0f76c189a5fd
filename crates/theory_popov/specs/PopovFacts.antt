-- What is proved of the Popov form of a matrix A of n rows and m columns, its polynomials having `size` = d + 1 places.
use Rattle.std.specs.Prelude.{◌≡◌, ℕ, suc, ◌-◌, ◌*◌, ◌≤◌, ◌<◌}
use Rattle.theory_algebra.specs.Field.{Field}
use Rattle.theory_algebra.specs.Polynomial.{Below}
use Rattle.theory_lattice.specs.Row.{Row}
use Rattle.theory_lattice.specs.PolynomialMatrix.{AllBounded, Transformed}
use Rattle.theory_reduction.specs.Rank.{IsRank, rank}
use Rattle.theory_reduction.specs.ReductionFacts.{ReductionFacts}
use Rattle.theory_reduction.specs.Step.{Carried}
use Rattle.theory_popov.specs.PopovForm.{PopovForm}

-- A was reduced to `weak` by `first` steps, and t was reached by `second` steps of the second kind
pub record PopovFacts {F : Type 0} (K : Field F) (n m size : ℕ) (A : ℕ → Row F) (first second : ℕ) (weak t : Carried F) : Type 0 where
  -- "Reduce to weak Popov form": here are the bounds of the first count
  pub reduction : ReductionFacts K n m size A first weak
  pub form : PopovForm K.ring n m t.R
  pub bounded : AllBounded K.ring n m size t.R
  -- U·A = P, V·P = A, U·V = V·U = 1
  pub transformed : Transformed K.ring n m A t.R t.U t.V'
  -- "U needs no degree above n(d+1)-1 and V none above d": for U the sharp bound (n-1)d
  pub u_degrees : (i j : ℕ) → i < n → j < n → Below K.ring (t.U i j) (suc ((n - 1) * (size - 1)))
  pub v_degrees : (i j : ℕ) → i < n → j < n → Below K.ring (t.V' i j) size
  -- the non-zero rows of P are the first, as many as those of `weak`, and that is the rank of A
  pub rank_form : form.rank ≡ rank K n m size t.R
  pub rank_kept : rank K n m size t.R ≡ rank K n m size weak.R
  pub rank_is : IsRank K.ring n m A (rank K n m size t.R)
  -- "The second is at most r(r-1)(d+1), and 0 for r = 0."
  pub second_bound : let r = rank K n m size t.R in second ≤ r * ((r - 1) * size)
