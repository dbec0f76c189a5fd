-- Finite sums in a commutative ring.
use Rattle.std.specs.Prelude.{ℕ, zero, suc}
use Rattle.theory_algebra.specs.Ring.{CommRing}

module _ {F : Type 0} (R : CommRing F) where
  -- the sum of f i over i < n
  unfoldable pub sum : ℕ → (ℕ → F) → F
  sum zero f = R.𝟘
  sum (suc n) f = R.add (sum n f) (f n)
