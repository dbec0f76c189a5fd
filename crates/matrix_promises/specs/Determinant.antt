-- The determinant of a matrix in a buffer.
use Rattle.std.specs.Prelude.{List, ℕ, ◌+◌, ◌*◌, ◌<◌}
use Rattle.theory_algebra.specs.Prime.{Prime}
use Rattle.theory_rings.specs.PrimeField.{zp_field}
use Rattle.theory_rings.specs.Series.{series}
use Rattle.theory_determinant.specs.Determinant.{det}
use Rattle.matrix_promises.specs.Layout.{by_rows}
use Rattle.matrix_promises.specs.Held.{Held, matrix_of}

-- r holds the determinant of the n by n matrix in a, as a polynomial of n·d + 1 places, whatever proof of primality is in hand:
-- "Defined by expansion along the first row, a 1 by 1 matrix having its only entry."
pub record IsDeterminant (p n d : ℕ) (a r : List ℕ) : Type 0 where
  pub by : (P : Prime p) (some : 0 < p)
      → Held (by_rows 1 1 (n * d + 1)) p r (λ _ _. det (series (zp_field p P).ring) n (matrix_of (by_rows n n (d + 1)) p some a))
