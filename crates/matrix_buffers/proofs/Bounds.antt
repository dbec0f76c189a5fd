-- A matrix, U and V have few places.
use Prim.Native.Nat.{ℕ, ◌*◌, ◌≤◌}
use native.Mathlib.Nat.{mul-le-mul}
use native.Mathlib.Omega.{arith}
use Rattle.matrix_buffers.specs.Bounds.{Bounds}

module _ {n m w : ℕ} (bounds : Bounds n m w) where
  -- eight times as many as some few
  rows_of : (x most : ℕ) → x ≤ most → n * x ≤ 8 * most
  rows_of x most few = mul-le-mul bounds.rows_most few

  pub row-few : m * w ≤ 512
  row-few = let most : m * w ≤ 8 * 64 = mul-le-mul bounds.columns_most bounds.places_most in omega arith

  pub matrix-few : n * (m * w) ≤ 4096
  matrix-few = omega (arith, rows_of (m * w) 512 row-few)

  pub cell-few : n * w ≤ 512
  cell-few = omega (arith, rows_of w 64 bounds.places_most)

  pub square-few : n * (n * w) ≤ 4096
  square-few = omega (arith, rows_of (n * w) 512 cell-few)

  pub transform-few : n * (n * (n * w)) ≤ 32768
  transform-few = omega (arith, rows_of (n * (n * w)) 4096 square-few)
