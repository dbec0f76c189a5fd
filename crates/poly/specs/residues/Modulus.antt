-- Moduli and residues, as numbers.
use Rattle.std.specs.Prelude.{ℕ, ◌*◌, ◌/◌, ◌%◌, ◌<◌, ◌≡◌}
use Rattle.theory_algebra.specs.Modulus.{InRange}

-- a modulus with its reciprocal, the whole part of 2^32 / p
pub record Ready (p reciprocal : ℕ) : Type 0 where
  pub range : InRange p
  pub reciprocal_is : reciprocal ≡ 4294967296 / p

-- two numbers below p
pub record Residues₂ (p a b : ℕ) : Type 0 where
  pub left : a < p
  pub right : b < p

-- r is the inverse of a modulo p
pub record Inverse (p a r : ℕ) : Type 0 where
  pub one : a * r % p ≡ 1
  pub below : r < p
