-- Power series in x over a commutative ring: f stands for the sum of f k x^k over all k.
use Rattle.std.specs.Prelude.{ℕ, suc, ◌-◌}
use Rattle.theory_algebra.specs.Ring.{CommRing}
use Rattle.theory_algebra.specs.Cases.{if_equal}
use Rattle.theory_algebra.specs.Sum.{sum}

module _ {F : Type 0} (R : CommRing F) where
  -- the sum of two series
  unfoldable pub ◌+ₛ◌ : (ℕ → F) → (ℕ → F) → ℕ → F
  ◌+ₛ◌ f g k = R.add (f k) (g k)

  -- the product of two series: at k, the sum of f i g (k - i) over i ≤ k
  unfoldable pub ◌*ₛ◌ : (ℕ → F) → (ℕ → F) → ℕ → F
  ◌*ₛ◌ f g k = sum R (suc k) (λ i. R.mul (f i) (g (k - i)))

  -- c x^d
  unfoldable pub mono : F → ℕ → ℕ → F
  mono c d k = if_equal k d c R.𝟘

  -- the series of c alone
  abbrev pub const : F → ℕ → F
  const c = mono c 0
