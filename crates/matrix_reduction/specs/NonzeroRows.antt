-- The rows of a matrix that are not zero.
use Rattle.std.specs.Prelude.{◌≡◌, List, ℕ, ◌*◌, length}
use Rattle.matrix_buffers.specs.Bounds.{Bounds}

-- a matrix in r
pub record ListAsked (n m w : ℕ) (r : List ℕ) : Type 0 where
  pub bounds : Bounds n m w
  pub size : length r ≡ n * (m * w)
