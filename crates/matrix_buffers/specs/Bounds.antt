-- What has passed the checks.
use Rattle.std.specs.Prelude.{◌≡◌, List, ℕ, ◌*◌, ◌≤◌, ◌<◌, length}
use Rattle.theory_algebra.specs.Prime.{Prime}
use Rattle.theory_lists.specs.Coefficients.{Coefficients}

-- "rows n, columns m: 1 to 8 each", "degree limit d: 0 to 63": a cell has w = d + 1 places
pub record Bounds (n m w : ℕ) : Type 0 where
  pub rows : 0 < n
  pub rows_most : n ≤ 8
  pub columns : 0 < m
  pub columns_most : m ≤ 8
  pub places : 0 < w
  pub places_most : w ≤ 64

-- a matrix of such a shape in a buffer of its length, of residues modulo a prime
pub record Checked (p n m w : ℕ) (a : List ℕ) : Type 0 where
  pub prime : Prime p
  pub bounds : Bounds n m w
  pub size : length a ≡ n * (m * w)
  pub residues : Coefficients p a
