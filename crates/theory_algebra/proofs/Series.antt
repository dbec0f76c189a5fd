-- The laws of the operations on series, by which the series over a commutative ring are a commutative ring again.
use mathlib.Core.Path.{◌≡◌, sym, ◌∙◌, ap, fun_ext}
use mathlib.Core.Logic.{◌≢◌}
use Prim.Native.Nat.{ℕ, zero, suc, ◌-◌, ◌≤◌, ◌<◌, zero-le}
use native.Mathlib.Omega.{arith}
use native.Mathlib.Nat as N
use Rattle.theory_algebra.specs.Ring.{CommRing}
use Rattle.theory_algebra.specs.Sum.{sum}
use Rattle.theory_algebra.specs.Series.{◌+ₛ◌, ◌*ₛ◌, mono, const}
use Rattle.theory_algebra.proofs.Ring as Ring
use Rattle.theory_algebra.proofs.Cases.{if-equal-same, if-equal-other}
use Rattle.theory_algebra.proofs.Sum.{sum-nil, sum-suc, sum-cong, sum-add, sum-mul, mul-sum, sum-single, sum-reverse}

module _ {F : Type 0} (R : CommRing F) where
  infixl 65 ◌⊕◌ ◌⊞◌
  infixl 70 ◌⊛◌ ◌⊠◌
  open R use {add as ◌⊕◌, mul as ◌⊛◌, neg, 𝟘, 𝟙, add_comm, add_assoc, add-zero, add-neg, mul_comm, mul_assoc, mul-one, mul-add}

  abbrev ◌⊞◌ : (ℕ → F) → (ℕ → F) → ℕ → F
  ◌⊞◌ = ◌+ₛ◌ R

  abbrev ◌⊠◌ : (ℕ → F) → (ℕ → F) → ℕ → F
  ◌⊠◌ = ◌*ₛ◌ R

  -- a sum over the triangle i + j < n, by diagonals and by rows
  triangle : (n : ℕ) (a : ℕ → ℕ → F)
      → sum R n (λ i. sum R (suc i) (λ j. a j (i - j))) ≡ sum R n (λ j. sum R (n - j) (λ k. a j k))
  triangle zero a = simp sum-nil
  triangle (suc n) a =
      sum-suc R n (λ i. sum R (suc i) (λ j. a j (i - j)))
      ∙ ap (λ x. x ⊕ sum R (suc n) (λ j. a j (n - j))) (triangle n a ∙ last)
      ∙ sym (sum-add R (suc n) (λ j. sum R (n - j) (a j)) (λ j. a j (n - j)))
      ∙ sum-cong R (suc n) (λ j. sum R (n - j) (a j) ⊕ a j (n - j)) (λ j. sum R (suc n - j) (a j)) row
    where
      last : sum R n (λ j. sum R (n - j) (a j)) ≡ sum R (suc n) (λ j. sum R (n - j) (a j))
      last = sym (simp (sum-suc, N.sub_self, sum-nil, add-zero))

      row : (j : ℕ) → j < suc n → sum R (n - j) (a j) ⊕ a j (n - j) ≡ sum R (suc n - j) (a j)
      row j l =
          let e : suc n - j ≡ suc (n - j) = omega arith in
          sym (ap (λ m. sum R m (a j)) e ∙ sum-suc R (n - j) (a j))

  -- the sum of series, coefficient by coefficient
  pub plus_comm : (f g : ℕ → F) → f ⊞ g ≡ g ⊞ f
  unfolding ◌+ₛ◌
  plus_comm f g = fun_ext (λ k. add_comm (f k) (g k))

  pub plus_assoc : (f g h : ℕ → F) → f ⊞ g ⊞ h ≡ f ⊞ (g ⊞ h)
  unfolding ◌+ₛ◌
  plus_assoc f g h = fun_ext (λ k. add_assoc (f k) (g k) (h k))

  pub plus-zero : (f : ℕ → F) → f ⊞ (λ k. 𝟘) ≡ f
  unfolding ◌+ₛ◌
  plus-zero f = fun_ext (λ k. add-zero (f k))

  pub plus-opposite : (f : ℕ → F) → f ⊞ (λ k. neg (f k)) ≡ (λ k. 𝟘)
  unfolding ◌+ₛ◌
  plus-opposite f = fun_ext (λ k. add-neg (f k))

  pub times-assoc : (f g h : ℕ → F) → f ⊠ g ⊠ h ≡ f ⊠ (g ⊠ h)
  unfolding ◌*ₛ◌
  times-assoc f g h = fun_ext (λ n.
      sum-cong R (suc n) _ _ (left n)
      ∙ triangle (suc n) (λ j k. f j ⊛ g k ⊛ h (n - j - k))
      ∙ sum-cong R (suc n) _ _ (right n))
    where
      left : (n i : ℕ) → i < suc n → (f ⊠ g) i ⊛ h (n - i) ≡ sum R (suc i) (λ j. f j ⊛ g (i - j) ⊛ h (n - j - (i - j)))
      left n i l =
          sum-mul R (suc i) (h (n - i)) (λ j. f j ⊛ g (i - j))
          ∙ sum-cong R (suc i) _ _ (λ j q.
          let e : n - i ≡ n - j - (i - j) = omega arith in
          ap (λ m. f j ⊛ g (i - j) ⊛ h m) e)

      right : (n j : ℕ) → j < suc n → sum R (suc n - j) (λ k. f j ⊛ g k ⊛ h (n - j - k)) ≡ f j ⊛ (g ⊠ h) (n - j)
      right n j l =
          let e : suc n - j ≡ suc (n - j) = omega arith in
          ap (λ m. sum R m (λ k. f j ⊛ g k ⊛ h (n - j - k))) e
          ∙ ap (sum R (suc (n - j))) (fun_ext (λ k. mul_assoc (f j) (g k) (h (n - j - k))))
          ∙ sym (mul-sum R (suc (n - j)) (f j) (λ k. g k ⊛ h (n - j - k)))

  pub times-comm : (f g : ℕ → F) → f ⊠ g ≡ g ⊠ f
  unfolding ◌*ₛ◌
  times-comm f g = fun_ext (λ n.
      sum-reverse R n (λ i. f i ⊛ g (n - i))
      ∙ sum-cong R (suc n) _ _ (λ i l.
      let e : n - (n - i) ≡ i = omega arith in
      mul_comm (f (n - i)) (g (n - (n - i))) ∙ ap (λ m. g m ⊛ f (n - i)) e))

  pub times-plus : (f g h : ℕ → F) → f ⊠ (g ⊞ h) ≡ f ⊠ g ⊞ f ⊠ h
  unfolding ◌*ₛ◌ ◌+ₛ◌
  times-plus f g h = fun_ext (λ n. simp mul-add (sum-add R (suc n) (λ i. f i ⊛ g (n - i)) (λ i. f i ⊛ h (n - i))))

  pub mono-same : (c : F) (d : ℕ) → mono R c d d ≡ c
  unfolding mono
  mono-same c d = if-equal-same d c 𝟘

  pub mono-other : (c : F) (d k : ℕ) → k ≢ d → mono R c d k ≡ 𝟘
  unfolding mono
  mono-other c d k h = if-equal-other k d c 𝟘 h

  pub mono-times : (c : F) (d : ℕ) (f : ℕ → F) (k : ℕ) → d ≤ k → (mono R c d ⊠ f) k ≡ c ⊛ f (k - d)
  unfolding ◌*ₛ◌
  mono-times c d f k l =
      sum-single R (suc k) d (λ i. mono R c d i ⊛ f (k - i)) (omega arith) (λ i q ne.
      ap (λ x. x ⊛ f (k - i)) (mono-other c d i ne) ∙ Ring.zero-mul R _)
      ∙ ap (λ x. x ⊛ f (k - d)) (mono-same c d)

  pub times-one : (f : ℕ → F) → f ⊠ const R 𝟙 ≡ f
  times-one f = times-comm f (const R 𝟙) ∙ fun_ext (λ k. mono-times 𝟙 0 f k zero-le ∙ Ring.one-mul R _ ∙ ap f (N.sub-zero k))
