-- What the determinant asks.
use Rattle.std.specs.Prelude.{◌≡◌, List, ℕ, ◌+◌, ◌*◌, length}
use Rattle.matrix_buffers.specs.Bounds.{Checked}

-- a square matrix that has passed the checks, and room for its determinant
pub record DeterminantAsked (p n d : ℕ) (a r : List ℕ) : Type 0 where
  pub checked : Checked p n n (d + 1) a
  pub room : length r ≡ n * d + 1
