-- What the parts of the printer ask.
use Rattle.std.specs.Prelude.{◌≡◌, List, ℕ, ◌+◌, ◌*◌, length}
use Rattle.theory_lists.specs.Coefficients.{Coefficients}
use Rattle.matrix_promises.specs.Refused.{Numbers}
use Rattle.matrix_promises.specs.Reduced.{IsReducedAlone}

-- an n by m matrix that no refusal applies to
pub record MatrixTaken (p n m d : ℕ) (a : List ℕ) : Type 0 where
  pub numbers : Numbers p n m d
  pub size : length a ≡ n * (m * (d + 1))
  pub residues : Coefficients p a

-- a matrix that is reduced to r
pub record ResultAsked (p n m d : ℕ) (a r : List ℕ) (rank count : ℕ) : Type 0 where
  pub matrix : MatrixTaken p n m d a
  pub reduced : IsReducedAlone p n m (d + 1) a r rank count
