-- Polynomials: bounds of sums and products, leading coefficients and degrees; over a field, no zero divisors.
use mathlib.Core.Path.{◌≡◌, sym, ◌∙◌, ap, fun_ext}
use mathlib.Core.Logic.{◌≢◌, ◌⊎◌, inl, inr}
use Prim.Native.Nat.{ℕ, zero, suc, ◌+◌, ◌-◌, ◌≤◌, ◌<◌, zero-le}
use native.Mathlib.Omega.{arith}
use native.Mathlib.Decide.{ℕ_discrete}
use Rattle.theory_algebra.specs.Ring.{CommRing}
use Rattle.theory_algebra.specs.Field.{Field}
use Rattle.theory_algebra.specs.Sum.{sum}
use Rattle.theory_algebra.specs.Series.{mono}
use Rattle.theory_algebra.specs.Polynomial.{Below, IsPolynomial, Degree}
use Rattle.theory_algebra.specs.Matrix.{Mat, product, identity}
use Rattle.theory_algebra.proofs.Ring as Ring
use Rattle.theory_algebra.proofs.Field.{no-zero-divisor}
use Rattle.theory_algebra.proofs.Cases.{case-le}
use Rattle.theory_algebra.proofs.Sum.{sum-nil, sum-suc, sum-null, sum-single}
use Rattle.theory_algebra.proofs.Series.{mono-other}
use Rattle.theory_rings.specs.Series.{series}
use Rattle.theory_rings.proofs.Series.{add_at, neg-at, zero-at, one_at, mul_at}
use Rattle.theory_algebra.proofs.Matrix.{identity-same, identity-other}

module _ {F : Type 0} (R : CommRing F) where
  infixl 65 ◌⊞◌
  infixl 70 ◌⊛◌ ◌⊠◌
  open R use {mul as ◌⊛◌, 𝟘, 𝟙}
  open series R use {add as ◌⊞◌, mul as ◌⊠◌, neg as negₛ, 𝟘 as 𝟘ₛ, 𝟙 as 𝟙ₛ}

  -- bounds
  pub below-mono : (c : F) (d : ℕ) → Below R (mono R c d) (suc d)
  below-mono c d k l = mono-other R c d k (omega arith)

  pub below_one : Below R 𝟙ₛ 1
  below_one k l = one_at R k ∙ below-mono 𝟙 0 k l

  pub below-add : (f g : ℕ → F) (d : ℕ) → Below R f d → Below R g d → Below R (f ⊞ g) d
  below-add f g d hf hg k l = simp (add_at, hf k l, hg k l, Ring.add-zero)

  pub below-neg : (f : ℕ → F) (d : ℕ) → Below R f d → Below R (negₛ f) d
  below-neg f d hf k l = simp (neg-at, hf k l, Ring.neg-zero)

  -- a product of coefficients is 0 where one of the two is beyond its bound
  beyond : (f g : ℕ → F) (a b : ℕ) → Below R f a → Below R g b → (i j : ℕ) → (i < a → b ≤ j) → f i ⊛ g j ≡ 𝟘
  beyond f g a b hf hg i j h = case-le a i
      (λ l. ap (λ x. x ⊛ g j) (hf i l) ∙ Ring.zero-mul R (g j))
      (λ l. ap (λ x. f i ⊛ x) (hg j (h l)) ∙ Ring.mul-zero R (f i))

  pub below-mul : (f g : ℕ → F) (a b : ℕ) → Below R f a → Below R g b → Below R (f ⊠ g) (a + b - 1)
  below-mul f g a b hf hg k l = mul_at R f g k ∙ sum-null R (suc k) _ (λ i q. beyond f g a b hf hg i (k - i) (λ p. omega arith))

  -- where a zero factor makes the product zero, whatever the other's degree
  pub below-mul-within : (f g : ℕ → F) (a b c : ℕ) → Below R f (suc a) → Below R g b → (0 < b → a + b ≤ c) → Below R (f ⊠ g) c
  below-mul-within f g a b c hf hg room k l =
      mul_at R f g k
      ∙ sum-null R (suc k) _ (λ i q. beyond f g (suc a) b hf hg i (k - i) (λ p. case-le 1 b (λ some. omega (arith, room some)) (λ none. omega arith)))

  -- the leading coefficient of a product
  pub lead-mul : (f g : ℕ → F) (a b : ℕ) → Below R f (suc a) → Below R g (suc b) → (f ⊠ g) (a + b) ≡ f a ⊛ g b
  lead-mul f g a b hf hg =
      let e : a + b - a ≡ b = omega arith in
      mul_at R f g (a + b)
      ∙ sum-single R (suc (a + b)) a (λ i. f i ⊛ g (a + b - i)) (omega arith) (λ i q ne.
      beyond f g (suc a) (suc b) hf hg i (a + b - i) (λ p. omega arith))
      ∙ ap (λ m. f a ⊛ g m) e

  pub degree-unique : (f : ℕ → F) (a b : ℕ) → Degree R f a → Degree R f b → a ≡ b
  degree-unique f a b x y =
      case-le (suc a) b (λ l. absurd (y.top (x.below b l)))
      (λ l. case-le (suc b) a (λ q. absurd (x.top (y.below a q))) (λ q. omega arith))

  -- what the operations make of polynomials are polynomials
  pub polynomial-zero : IsPolynomial R 𝟘ₛ
  polynomial-zero = (0, λ k l. zero-at R k)

  pub polynomial-one : IsPolynomial R 𝟙ₛ
  polynomial-one = (1, below_one)

  pub polynomial-mono : (c : F) (d : ℕ) → IsPolynomial R (mono R c d)
  polynomial-mono c d = (suc d, below-mono c d)

  pub polynomial-add : (f g : ℕ → F) → IsPolynomial R f → IsPolynomial R g → IsPolynomial R (f ⊞ g)
  polynomial-add f g p q = (p.0 + q.0, below-add f g (p.0 + q.0) (λ k l. p.1 k (omega arith)) (λ k l. q.1 k (omega arith)))

  pub polynomial-neg : (f : ℕ → F) → IsPolynomial R f → IsPolynomial R (negₛ f)
  polynomial-neg f p = (p.0, below-neg f p.0 p.1)

  pub polynomial-mul : (f g : ℕ → F) → IsPolynomial R f → IsPolynomial R g → IsPolynomial R (f ⊠ g)
  polynomial-mul f g p q = (p.0 + q.0 - 1, below-mul f g p.0 q.0 p.1 q.1)

  pub polynomial-sum : (n : ℕ) (f : ℕ → ℕ → F) → ((i : ℕ) → i < n → IsPolynomial R (f i)) → IsPolynomial R (sum (series R) n f)
  polynomial-sum zero f h = rw sum-nil polynomial-zero
  polynomial-sum (suc n) f h = rw sum-suc (polynomial-add _ (f n) (polynomial-sum n f (λ i l. h i (omega arith))) (h n (omega arith)))

  pub polynomial-product : (n : ℕ) (A B : Mat (ℕ → F)) (i j : ℕ)
      → ((k : ℕ) → k < n → IsPolynomial R (A i k)) → ((k : ℕ) → k < n → IsPolynomial R (B k j))
      → IsPolynomial R (product (series R) n A B i j)
  unfolding product
  polynomial-product n A B i j a b = polynomial-sum n _ (λ k l. polynomial-mul (A i k) (B k j) (a k l) (b k l))

  pub polynomial-identity : (i j : ℕ) → IsPolynomial R (identity (series R) i j)
  polynomial-identity i j = elim (ℕ_discrete i j) [
    | yes e ↦ rw (e, identity-same) polynomial-one
    | no ne ↦ rw (identity-other (series R) i j ne) polynomial-zero
  ]

module _ {F : Type 0} (K : Field F) where
  infixl 70 ◌⊠◌
  open K.ring use {𝟘}
  open series K.ring use {mul as ◌⊠◌}

  pub degree-mul : (f g : ℕ → F) (a b : ℕ) → Degree K.ring f a → Degree K.ring g b → Degree K.ring (f ⊠ g) (a + b)
  degree-mul f g a b x y = record {
    top = λ z. y.top (no-zero-divisor K (f a) (g b) (sym (lead-mul K.ring f g a b x.below y.below) ∙ z) x.top);
    below = λ k l. below-mul K.ring f g (suc a) (suc b) x.below y.below k (omega arith);
  }

  -- a polynomial is 0 or has a degree
  pub degree : (d : ℕ) (f : ℕ → F) → Below K.ring f d → (f ≡ (λ _. 𝟘)) ⊎ ((a : ℕ) × Degree K.ring f a)
  degree zero f h = inl (fun_ext (λ k. h k zero-le))
  degree (suc d) f h = elim (K.dec (f d) 𝟘) [
    | yes z ↦ degree d f (λ k l. case-le (suc d) k (h k) (λ q. let e : k ≡ d = omega arith in ap f e ∙ z))
    | no ne ↦ inr (d, record { top = ne; below = h })
  ]

  pub polynomial-no-zero-divisor : (f g : ℕ → F) → IsPolynomial K.ring f → IsPolynomial K.ring g
      → f ⊠ g ≡ (λ _. 𝟘) → f ≢ (λ _. 𝟘) → g ≡ (λ _. 𝟘)
  polynomial-no-zero-divisor f g p q e ne = go (degree p.0 f p.1) (degree q.0 g q.1)
    where
      go : (f ≡ (λ _. 𝟘)) ⊎ ((a : ℕ) × Degree K.ring f a) → (g ≡ (λ _. 𝟘)) ⊎ ((b : ℕ) × Degree K.ring g b) → g ≡ (λ _. 𝟘)
      go (inl z) y = absurd (ne z)
      go (inr x) (inl z) = z
      go (inr x) (inr y) = absurd ((degree-mul f g x.0 y.0 x.1 y.1).top (ap (λ h. h (x.0 + y.0)) e))
