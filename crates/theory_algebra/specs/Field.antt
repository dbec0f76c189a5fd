-- Fields in which it can be decided whether two elements are equal.
use Rattle.std.specs.Prelude.{◌≡◌, ◌≢◌}
use Rattle.theory_algebra.specs.Ring.{CommRing}

-- a commutative ring with 1 ≠ 0 in which every element but 0 has an inverse; `inv` of 0 may be anything
pub record Field (F : Type 0) : Type 0 where
  pub ring : CommRing F
  pub dec : (a b : F) → Dec (a ≡ b)
  pub inv : F → F
  pub nontrivial : ring.𝟙 ≢ ring.𝟘
  pub mul-inv : (a : F) → a ≢ ring.𝟘 → ring.mul a (inv a) ≡ ring.𝟙
