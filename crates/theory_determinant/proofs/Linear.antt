-- The determinant depends on the first n rows and columns alone, and is linear in each row.
use mathlib.Core.Path.{◌≡◌, refl, sym, ◌∙◌, ap, ap₂, fun_ext}
use mathlib.Core.Logic.{◌≢◌}
use Prim.Native.Nat.{ℕ, zero, suc, ◌<◌}
use native.Mathlib.Omega.{arith}
use Rattle.theory_algebra.specs.Ring.{CommRing}
use Rattle.theory_algebra.specs.Sum.{sum}
use Rattle.theory_algebra.specs.Matrix.{Mat, Same}
use Rattle.theory_algebra.proofs.Ring.{ring}
use Rattle.theory_algebra.proofs.Sum.{sum-cong, sum-add, mul-sum}
use Rattle.theory_lists.specs.Skip.{skip}
use Rattle.theory_lists.proofs.Skip.{skip-fits}
use Rattle.theory_determinant.specs.Determinant.{minor, sign_at, det}

module _ {F : Type 0} (R : CommRing F) where
  infixl 65 ◌⊕◌
  infixl 70 ◌⊛◌
  open R use {add as ◌⊕◌, mul as ◌⊛◌}

  -- the term of the expansion at column j
  abbrev pub term : ℕ → Mat F → ℕ → F
  term n A j = sign_at R j ⊛ (A 0 j ⊛ det R n (minor j A))

  pub det-suc : (n : ℕ) (A : Mat F) → det R (suc n) A ≡ sum R (suc n) (term n A)
  unfolding det
  det-suc n A = refl

  pub det-same : (n : ℕ) (A B : Mat F) → Same n n A B → det R n A ≡ det R n B
  unfolding det
  det-same zero A B h = refl
  det-same (suc n) A B h = sum-cong R (suc n) _ _ (λ j l. ap₂ (λ a x. sign_at R j ⊛ (a ⊛ x)) (h 0 j (omega arith) l)
      (det-same n (minor j A) (minor j B) (λ i k li lk. h (suc i) (skip j k) (omega arith) (skip-fits n j k lk))))

  -- where the terms are a sum
  linear-terms : (n : ℕ) (A B C : Mat F) (c : F) → ((j : ℕ) → term n C j ≡ term n A j ⊕ c ⊛ term n B j)
      → det R (suc n) C ≡ det R (suc n) A ⊕ c ⊛ det R (suc n) B
  unfolding det
  linear-terms n A B C c h =
      ap (sum R (suc n)) (fun_ext h)
      ∙ sum-add R (suc n) (term n A) (λ j. c ⊛ term n B j)
      ∙ ap (λ x. det R (suc n) A ⊕ x) (sym (mul-sum R (suc n) c (term n B)))

  -- linear in row r: row r of C is that of A plus c times that of B, and the other rows are equal
  pub det-linear : (n r : ℕ) (A B C : Mat F) (c : F) → r < n
      → ((i : ℕ) → i ≢ r → A i ≡ C i) → ((i : ℕ) → i ≢ r → B i ≡ C i) → ((j : ℕ) → C r j ≡ A r j ⊕ c ⊛ B r j)
      → det R n C ≡ det R n A ⊕ c ⊛ det R n B
  det-linear zero r A B C c l a b e = absurd (omega arith)
  det-linear (suc n) zero A B C c l a b e = linear-terms n A B C c (λ j.
      ap (λ x. sign_at R j ⊛ (x ⊛ det R n (minor j C))) (e j)
      ∙ spread (sign_at R j) (A 0 j) (B 0 j) (det R n (minor j C))
      ∙ sym (ap₂ (λ x y. sign_at R j ⊛ (A 0 j ⊛ x) ⊕ c ⊛ (sign_at R j ⊛ (B 0 j ⊛ y))) (same j A a) (same j B b)))
    where
      same : (j : ℕ) (A : Mat F) → ((i : ℕ) → i ≢ 0 → A i ≡ C i) → det R n (minor j A) ≡ det R n (minor j C)
      same j A a = ap (det R n) (fun_ext (λ i. ap (λ row k. row (skip j k)) (a (suc i) (omega arith))))

      spread : (s x y d : F) → s ⊛ ((x ⊕ c ⊛ y) ⊛ d) ≡ s ⊛ (x ⊛ d) ⊕ c ⊛ (s ⊛ (y ⊛ d))
      spread s x y d = simp ring
  det-linear (suc n) (suc r) A B C c l a b e = linear-terms n A B C c (λ j.
      ap (λ x. sign_at R j ⊛ (C 0 j ⊛ x)) (
      det-linear n r (minor j A) (minor j B) (minor j C) c (omega arith) (others j A a) (others j B b) (λ k. e (skip j k)))
      ∙ spread (sign_at R j) (C 0 j) (det R n (minor j A)) (det R n (minor j B))
      ∙ sym (ap₂ (λ x y. sign_at R j ⊛ (x ⊛ det R n (minor j A)) ⊕ c ⊛ (sign_at R j ⊛ (y ⊛ det R n (minor j B))))
      (ap (λ row. row j) (a 0 (omega arith))) (ap (λ row. row j) (b 0 (omega arith)))))
    where
      others : (j : ℕ) (A : Mat F) → ((i : ℕ) → i ≢ suc r → A i ≡ C i) → (i : ℕ) → i ≢ r → minor j A i ≡ minor j C i
      others j A a i ne = ap (λ row k. row (skip j k)) (a (suc i) (omega arith))

      spread : (s d x y : F) → s ⊛ (d ⊛ (x ⊕ c ⊛ y)) ≡ s ⊛ (d ⊛ x) ⊕ c ⊛ (s ⊛ (d ⊛ y))
      spread s d x y = simp ring
