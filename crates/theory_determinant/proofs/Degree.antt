-- The degree of a determinant: no term has more than n times the degree of the entries.
use Prim.Native.Nat.{ℕ, zero, suc, ◌-◌, ◌+◌, ◌*◌, ◌<◌}
use native.Mathlib.Omega.{arith}
use native.Mathlib.Nat as N
use Rattle.theory_algebra.specs.Ring.{CommRing}
use Rattle.theory_algebra.specs.Polynomial.{Below}
use Rattle.theory_algebra.specs.Sum.{sum}
use Rattle.theory_algebra.proofs.Ring as Ring
use Rattle.theory_algebra.proofs.Sum.{sum-nil, sum-suc}
use Rattle.theory_rings.specs.Series.{series}
use Rattle.theory_rings.proofs.Polynomial.{below_one, below-add, below-neg, below-mul}
use Rattle.theory_lattice.specs.Row.{Row}
use Rattle.theory_lattice.specs.PolynomialMatrix.{AllBounded}
use Rattle.theory_lattice.proofs.Coefficients.{below-zero, below_more}
use Rattle.theory_lists.specs.Skip.{skip}
use Rattle.theory_lists.proofs.Skip.{skip-fits}
use Rattle.theory_determinant.specs.Determinant.{minor, sign_at, det}

module _ {F : Type 0} (R : CommRing F) where
  infixl 70 ◌⊛◌
  open series R use {mul as ◌⊛◌}

  abbrev S : CommRing (ℕ → F)
  S = series R

  pub below-sign : (j : ℕ) (f : ℕ → F) {d : ℕ} → Below R f d → Below R (sign_at S j ⊛ f) d
  below-sign zero f h = rw Ring.one-mul h
  below-sign (suc j) f h = rw Ring.neg-mul (below-neg R _ _ (below-sign j f h))

  below-sum : (n : ℕ) (f : ℕ → ℕ → F) (d : ℕ) → ((j : ℕ) → j < n → Below R (f j) d) → Below R (sum S n f) d
  below-sum zero f d h = rw sum-nil (below-zero R d)
  below-sum (suc n) f d h = rw sum-suc (below-add R _ _ d (below-sum n f d (λ j l. h j (omega arith))) (h n (omega arith)))

  pub det-below : (n d : ℕ) (A : ℕ → Row F) → AllBounded R n n (suc d) A → Below R (det S n A) (suc (n * d))
  unfolding det
  det-below zero d A b = below_more R _ 1 _ (omega arith) (below_one R)
  det-below (suc n) d A b = below-sum (suc n) _ _ (λ j lj. below-sign j _ (below_more R _ (suc d + suc (n * d) - 1) _ (omega (arith, N.suc-mul n d))
      (below-mul R (A 0 j) (det S n (minor j A)) (suc d) (suc (n * d)) (b 0 (omega arith) j lj)
      (det-below n d (minor j A) (λ i li k lk. b (suc i) (omega arith) (skip j k) (skip-fits n j k lk))))))
