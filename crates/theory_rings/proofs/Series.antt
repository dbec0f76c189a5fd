-- The coefficients of what the operations of the ring of series give.
use mathlib.Core.Path.{◌≡◌, refl, sym, ◌∙◌, ap, fun_ext}
use Prim.Native.Nat.{ℕ, zero, suc, ◌-◌, ◌≤◌, ◌<◌, zero-le}
use native.Mathlib.Omega.{arith}
use native.Mathlib.Nat as N
use Rattle.theory_algebra.specs.Ring.{CommRing}
use Rattle.theory_algebra.specs.Cases.{if_equal}
use Rattle.theory_algebra.specs.Sum.{sum}
use Rattle.theory_algebra.specs.Series.{◌+ₛ◌, ◌*ₛ◌, mono, const}
use Rattle.theory_algebra.proofs.Ring as Ring
use Rattle.theory_algebra.proofs.Cases.{if-equal-ap}
use Rattle.theory_algebra.proofs.Sum.{sum-null}
use Rattle.theory_algebra.proofs.Series.{mono-same, mono-other, mono-times}
use Rattle.theory_rings.specs.Series.{series}

module _ {F : Type 0} (R : CommRing F) where
  infixl 65 ◌⊕◌
  infixl 70 ◌⊛◌
  open R use {add as ◌⊕◌, mul as ◌⊛◌, neg, 𝟘, 𝟙}

  -- the coefficient at k of what its operations give
  pub add_at : (f g : ℕ → F) (k : ℕ) → (series R).add f g k ≡ f k ⊕ g k
  unfolding series ◌+ₛ◌
  add_at f g k = refl

  pub mul_at : (f g : ℕ → F) (k : ℕ) → (series R).mul f g k ≡ sum R (suc k) (λ i. f i ⊛ g (k - i))
  unfolding series ◌*ₛ◌
  mul_at f g k = refl

  pub neg-at : (f : ℕ → F) (k : ℕ) → (series R).neg f k ≡ neg (f k)
  unfolding series
  neg-at f k = refl

  pub neg-mono : (c : F) (d : ℕ) → (series R).neg (mono R c d) ≡ mono R (neg c) d
  unfolding mono
  neg-mono c d = fun_ext (λ k. neg-at (mono R c d) k ∙ if-equal-ap neg k d c 𝟘 ∙ ap (if_equal k d (neg c)) (Ring.neg-zero R))

  pub zero-at : (k : ℕ) → (series R).𝟘 k ≡ 𝟘
  unfolding series
  zero-at k = refl

  pub one_at : (k : ℕ) → (series R).𝟙 k ≡ const R 𝟙 k
  unfolding series
  one_at k = refl

  -- c x^d f below d and from d on, and c f
  pub mono-mul-low : (c : F) (d : ℕ) (f : ℕ → F) (k : ℕ) → k < d → (series R).mul (mono R c d) f k ≡ 𝟘
  mono-mul-low c d f k l = mul_at (mono R c d) f k ∙ sum-null R (suc k) _ (λ i q.
      ap (λ x. x ⊛ f (k - i)) (mono-other R c d i (omega arith)) ∙ Ring.zero-mul R _)

  pub mono-mul-high : (c : F) (d : ℕ) (f : ℕ → F) (k : ℕ) → d ≤ k → (series R).mul (mono R c d) f k ≡ c ⊛ f (k - d)
  unfolding series
  mono-mul-high = mono-times R

  pub const-mul-at : (c : F) (f : ℕ → F) (k : ℕ) → (series R).mul (const R c) f k ≡ c ⊛ f k
  const-mul-at c f k = mono-mul-high c 0 f k zero-le ∙ ap (λ m. c ⊛ f m) (N.sub-zero k)

  pub const-mul : (a b : F) → (series R).mul (const R a) (const R b) ≡ const R (a ⊛ b)
  const-mul a b = fun_ext (λ k. const-mul-at a (const R b) k ∙ at k)
    where
      at : (k : ℕ) → a ⊛ const R b k ≡ const R (a ⊛ b) k
      at zero = ap (λ x. a ⊛ x) (mono-same R b 0) ∙ sym (mono-same R (a ⊛ b) 0)
      at (suc k) = ap (λ x. a ⊛ x) (mono-other R b 0 (suc k) (omega arith)) ∙ Ring.mul-zero R a ∙ sym (mono-other R (a ⊛ b) 0 (suc k) (omega arith))
