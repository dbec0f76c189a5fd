-- The laws of finite sums.
use mathlib.Core.Path.{◌≡◌, refl, sym, ◌∙◌, ap, ap₂, fun_ext}
use mathlib.Core.Logic.{◌≢◌}
use Prim.Native.Nat.{ℕ, zero, suc, ◌-◌, ◌<◌}
use native.Mathlib.Omega.{arith}
use native.Mathlib.Nat as N
use Rattle.theory_algebra.specs.Ring.{CommRing}
use Rattle.theory_algebra.specs.Sum.{sum}
use Rattle.theory_algebra.proofs.Ring as Ring
use Rattle.theory_algebra.proofs.Cases.{case-le}

module _ {F : Type 0} (R : CommRing F) where
  infixl 65 ◌⊕◌
  infixl 70 ◌⊛◌
  open R use {add as ◌⊕◌, mul as ◌⊛◌, neg, 𝟘, add_comm, add_assoc, add-zero, mul_comm, mul-add}

  pub sum-nil : (f : ℕ → F) → sum R 0 f ≡ 𝟘
  unfolding sum
  sum-nil f = refl

  pub sum-suc : (n : ℕ) (f : ℕ → F) → sum R (suc n) f ≡ sum R n f ⊕ f n
  unfolding sum
  sum-suc n f = refl

  pub sum-cong : (n : ℕ) (f g : ℕ → F) → ((i : ℕ) → i < n → f i ≡ g i) → sum R n f ≡ sum R n g
  unfolding sum
  sum-cong zero f g h = refl
  sum-cong (suc n) f g h = ap₂ ◌⊕◌ (sum-cong n f g (λ i l. h i (omega arith))) (h n (omega arith))

  pub sum-null : (n : ℕ) (f : ℕ → F) → ((i : ℕ) → i < n → f i ≡ 𝟘) → sum R n f ≡ 𝟘
  unfolding sum
  sum-null zero f h = refl
  sum-null (suc n) f h = ap₂ ◌⊕◌ (sum-null n f (λ i l. h i (omega arith))) (h n (omega arith)) ∙ add-zero 𝟘

  -- sums of sums, negatives and products
  pub sum-add : (n : ℕ) (f g : ℕ → F) → sum R n (λ i. f i ⊕ g i) ≡ sum R n f ⊕ sum R n g
  sum-add zero f g = simp (sum-nil, add-zero)
  sum-add (suc n) f g = simp (sum-suc, sum-add n f g, add_assoc, Ring.add_left_comm R (sum R n g) (f n) (g n))

  pub sum-neg : (n : ℕ) (f : ℕ → F) → sum R n (λ i. neg (f i)) ≡ neg (sum R n f)
  sum-neg zero f = simp (sum-nil, Ring.neg-zero R)
  sum-neg (suc n) f = simp (sum-suc, sum-neg n f, Ring.neg_sum R)

  pub mul-sum : (n : ℕ) (c : F) (f : ℕ → F) → c ⊛ sum R n f ≡ sum R n (λ i. c ⊛ f i)
  unfolding sum
  mul-sum zero c f = Ring.mul-zero R c
  mul-sum (suc n) c f = mul-add c (sum R n f) (f n) ∙ ap (λ x. x ⊕ c ⊛ f n) (mul-sum n c f)

  pub sum-mul : (n : ℕ) (c : F) (f : ℕ → F) → sum R n f ⊛ c ≡ sum R n (λ i. f i ⊛ c)
  sum-mul n c f = mul_comm (sum R n f) c ∙ mul-sum n c f ∙ ap (sum R n) (fun_ext (λ i. mul_comm c (f i)))

  pub sum-swap : (n m : ℕ) (f : ℕ → ℕ → F) → sum R n (λ i. sum R m (λ j. f i j)) ≡ sum R m (λ j. sum R n (λ i. f i j))
  unfolding sum
  sum-swap zero m f = sym (sum-null m (λ _. 𝟘) (λ _ _. refl))
  sum-swap (suc n) m f = ap (λ x. x ⊕ sum R m (f n)) (sum-swap n m f) ∙ sym (sum-add m (λ j. sum R n (λ i. f i j)) (f n))

  -- the first term apart
  pub sum_first : (n : ℕ) (f : ℕ → F) → sum R (suc n) f ≡ f 0 ⊕ sum R n (λ i. f (suc i))
  unfolding sum
  sum_first zero f = add_comm 𝟘 (f 0)
  sum_first (suc n) f = ap (λ x. x ⊕ f (suc n)) (sum_first n f) ∙ add_assoc (f 0) (sum R n (λ i. f (suc i))) (f (suc n))

  -- only the term at k counts
  pub sum-single : (n k : ℕ) (f : ℕ → F) → k < n → ((i : ℕ) → i < n → i ≢ k → f i ≡ 𝟘) → sum R n f ≡ f k
  sum-single zero k f l h = absurd (omega arith)
  sum-single (suc n) k f l h = sum-suc n f ∙ case-le n k
      (λ q.
      let e : n ≡ k = omega arith in
      ap₂ ◌⊕◌ (sum-null n f (λ i p. h i (omega arith) (omega arith))) (ap f e) ∙ Ring.zero-add R (f k))
      (λ q. ap₂ ◌⊕◌ (sum-single n k f q (λ i p. h i (omega arith))) (h n (omega arith) (omega arith)) ∙ add-zero (f k))

  -- backwards
  pub sum-reverse : (n : ℕ) (f : ℕ → F) → sum R (suc n) f ≡ sum R (suc n) (λ i. f (n - i))
  unfolding sum
  sum-reverse zero f = refl
  sum-reverse (suc n) f =
      add_comm (sum R (suc n) f) (f (suc n))
      ∙ ap₂ ◌⊕◌ (ap f (sym (N.sub-zero (suc n)))) (sum-reverse n f ∙ ap (sum R (suc n)) (fun_ext (λ i. ap f (sym (N.suc-sub-suc n i)))))
      ∙ sym (sum_first (suc n) (λ i. f (suc n - i)))
