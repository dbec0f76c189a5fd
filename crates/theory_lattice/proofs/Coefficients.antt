-- Coefficients of series and degrees of polynomials over a commutative ring.
use mathlib.Core.Path.{◌≡◌, sym, ◌∙◌, ap, fun_ext}
use mathlib.Core.Logic.{◌≢◌}
use Prim.Native.Nat.{ℕ, zero, suc, ◌-◌, ◌≤◌, ◌<◌}
use native.Mathlib.Omega.{arith}
use native.Mathlib.Decide.{ℕ_discrete}
use native.Mathlib.Nat as N
use Rattle.theory_algebra.specs.Ring.{CommRing}
use Rattle.theory_algebra.specs.Sum.{sum}
use Rattle.theory_algebra.specs.Series.{mono}
use Rattle.theory_algebra.specs.Polynomial.{Below, Degree}
use Rattle.theory_algebra.specs.Matrix.{identity}
use Rattle.theory_algebra.proofs.Ring as Ring
use Rattle.theory_algebra.proofs.Sum.{sum-nil, sum-suc, sum-single}
use Rattle.theory_algebra.proofs.Series.{mono-same}
use Rattle.theory_rings.specs.Series.{series}
use Rattle.theory_rings.proofs.Series.{add_at, mul_at, neg-at, zero-at}
use Rattle.theory_rings.proofs.Polynomial.{below-mono, below-neg, below_one}
use Rattle.theory_algebra.proofs.Matrix.{identity-same, identity-other}

module _ {F : Type 0} (R : CommRing F) where
  infixl 65 ◌⊕◌
  infixl 70 ◌⊛◌
  open R use {add as ◌⊕◌, mul as ◌⊛◌, neg, 𝟘}

  pub zero-series : (series R).𝟘 ≡ (λ _. 𝟘)
  zero-series = fun_ext (zero-at R)

  pub sum-at : (n : ℕ) (f : ℕ → ℕ → F) (k : ℕ) → sum (series R) n f k ≡ sum R n (λ i. f i k)
  sum-at zero f k = ap (λ g. g k) (sum-nil (series R) f) ∙ zero-at R k ∙ sym (sum-nil R _)
  sum-at (suc n) f k =
      ap (λ g. g k) (sum-suc (series R) n f) ∙ add_at R _ (f n) k ∙ ap (λ x. x ⊕ f n k) (sum-at n f k) ∙ sym (sum-suc R n _)

  -- where the terms of f below k are zero
  pub mul-at-low : (f g : ℕ → F) (k : ℕ) → ((i : ℕ) → i < k → f i ≡ 𝟘) → (series R).mul f g k ≡ f k ⊛ g 0
  mul-at-low f g k h =
      mul_at R f g k
      ∙ sum-single R (suc k) k (λ i. f i ⊛ g (k - i)) (omega arith) (λ i l ne. ap (λ x. x ⊛ g (k - i)) (h i (omega arith)) ∙ Ring.zero-mul R _)
      ∙ ap (λ x. f k ⊛ g x) (N.sub_self k)

  pub below_more : (f : ℕ → F) (a b : ℕ) → a ≤ b → Below R f a → Below R f b
  below_more f a b l h k p = h k (omega arith)

  pub degree-mono : (c : F) (d : ℕ) → c ≢ 𝟘 → Degree R (mono R c d) d
  degree-mono c d ne = record { top = λ z. ne (sym (mono-same R c d) ∙ z); below = below-mono R c d }

  pub degree-neg : (f : ℕ → F) (a : ℕ) → Degree R f a → Degree R ((series R).neg f) a
  degree-neg f a d = record {
    top = λ z. d.top (sym (Ring.neg-neg R (f a)) ∙ ap neg (sym (neg-at R f a) ∙ z) ∙ Ring.neg-zero R);
    below = below-neg R f (suc a) d.below;
  }

  pub below-zero : (d : ℕ) → Below R (series R).𝟘 d
  below-zero d k l = zero-at R k

  pub below-identity : (i j : ℕ) → Below R (identity (series R) i j) 1
  below-identity i j = elim (ℕ_discrete i j) [
    | yes e ↦ rw (e, identity-same) (below_one R)
    | no ne ↦ rw (identity-other (series R) i j ne) (below-zero 1)
  ]
