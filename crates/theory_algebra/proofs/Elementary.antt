-- The elementary matrices: products with them from the left are operations on rows, products from the right
-- operations on columns, which are the rows of the transposed matrix; and each has an inverse of its kind.
use mathlib.Core.Path.{◌≡◌, sym, ◌∙◌, ap, ap₂}
use mathlib.Core.Logic.{◌≢◌}
use Prim.Native.Nat.{ℕ, ◌<◌}
use native.Mathlib.Decide.{ℕ_discrete}
use Rattle.theory_algebra.specs.Ring.{CommRing}
use Rattle.theory_algebra.specs.Matrix.{Mat, Same, transpose, product, identity, addrow, permute, dilate}
use Rattle.theory_algebra.proofs.Ring.{ring}
use Rattle.theory_algebra.proofs.Ring as Ring
use Rattle.theory_algebra.proofs.Sum.{sum-cong, sum-add, mul-sum}
use Rattle.theory_algebra.proofs.Matrix.{setrow-same, setrow-other, identity-same, identity-other, identity-iff, identity-product, product_turned}

module _ {F : Type 0} (R : CommRing F) where
  infixl 65 ◌⊕◌
  infixl 70 ◌⊛◌
  open R use {add as ◌⊕◌, mul as ◌⊛◌, neg, 𝟘, 𝟙}

  abbrev I : Mat F
  I = identity R

  -- c times row k is added to row l
  pub addrow-at : (A : Mat F) (l k : ℕ) (c : F) (i j : ℕ) → addrow R A l k c i j ≡ A i j ⊕ identity R i l ⊛ (c ⊛ A k j)
  addrow-at A l k c i j = go (ℕ_discrete i l)
    where
      go : Dec (i ≡ l) → addrow R A l k c i j ≡ A i j ⊕ identity R i l ⊛ (c ⊛ A k j)
      go (yes e) = rw (e, setrow-same, identity-same) (simp ring)
      go (no ne) = rw (identity-other R i l ne) (ap (λ f. f j) (setrow-other A l _ i ne) ∙ simp ring)

  -- a column follows the rows
  pub addrow-column : (A : Mat F) (l k : ℕ) (c : F) (m i j : ℕ) → addrow R (λ i _. A i m) l k c i j ≡ addrow R A l k c i m
  addrow-column A l k c m i j = addrow-at (λ i _. A i m) l k c i j ∙ sym (addrow-at A l k c i m)

  pub addrow-product : (n m : ℕ) (A : Mat F) (l k : ℕ) (c : F) → k < n → Same n m (product R n (addrow R I l k c) A) (addrow R A l k c)
  unfolding product
  addrow-product n m A l k c lk i j li lj =
      sum-cong R n _ (λ x. I i x ⊛ A x j ⊕ I i l ⊛ c ⊛ (I k x ⊛ A x j)) (λ x _. rw (addrow-at I l k c i x) (simp ring))
      ∙ sum-add R n (λ x. I i x ⊛ A x j) (λ x. I i l ⊛ c ⊛ (I k x ⊛ A x j))
      ∙ ap₂ ◌⊕◌ (identity-product R n m A i j li lj)
      (sym (mul-sum R n (I i l ⊛ c) (λ x. I k x ⊛ A x j))
      ∙ ap (λ x. I i l ⊛ c ⊛ x) (identity-product R n m A k j lk lj)
      ∙ Ring.mul_assoc R (I i l) c (A k j))
      ∙ sym (addrow-at A l k c i j)

  pub product-addrow : (n m : ℕ) (A : Mat F) (l k : ℕ) (c : F) → l < m
      → Same n m (product R m A (addrow R I l k c)) (transpose (addrow R (transpose A) k l c))
  product-addrow n m A l k c ll i j li lj =
      product_turned R m A (addrow R I l k c) (addrow R I k l c) i j (λ x _. turned x)
      ∙ addrow-product m n (transpose A) k l c ll j i lj li
    where
      turned : (x : ℕ) → addrow R I l k c x j ≡ addrow R I k l c j x
      turned x =
          addrow-at I l k c x j
          ∙ rw (identity-iff R x j j x sym sym, identity-iff R x l l x sym sym, identity-iff R k j j k sym sym) (simp ring)
          ∙ sym (addrow-at I k l c j x)

  pub addrow-inverse : (n l k : ℕ) (c : F) → k < n → l ≢ k
      → Same n n (product R n (addrow R I l k c) (addrow R I l k (neg c))) I
  addrow-inverse n l k c lk ne i j li lj =
      addrow-product n n (addrow R I l k (neg c)) l k c lk i j li lj
      ∙ addrow-at (addrow R I l k (neg c)) l k c i j
      ∙ rw (addrow-at I l k (neg c) i j, addrow-at I l k (neg c) k j, identity-other R k l (λ e. ne (sym e))) (simp ring)

  -- row i is row σ i; τ undoes σ
  pub permute-product : (n m : ℕ) (A : Mat F) (σ : ℕ → ℕ) → ((i : ℕ) → i < n → σ i < n) → Same n m (product R n (permute σ I) A) (permute σ A)
  unfolding product
  permute-product n m A σ s i j li lj = identity-product R n m A (σ i) j (s i li) lj

  pub product-permute : (n m : ℕ) (A : Mat F) (σ τ : ℕ → ℕ)
      → ((i : ℕ) → i < m → τ i < m) → ((i : ℕ) → i < m → σ (τ i) ≡ i) → ((i : ℕ) → i < m → τ (σ i) ≡ i)
      → Same n m (product R m A (permute σ I)) (transpose (permute τ (transpose A)))
  product-permute n m A σ τ t στ τσ i j li lj =
      product_turned R m A (permute σ I) (permute τ I) i j (λ x lx.
      identity-iff R (σ x) j (τ j) x (λ e. ap τ (sym e) ∙ τσ x lx) (λ e. ap σ (sym e) ∙ στ j lj))
      ∙ permute-product m n (transpose A) τ t j i lj li

  pub permute-inverse : (n : ℕ) (σ τ : ℕ → ℕ) → ((i : ℕ) → i < n → σ i < n) → ((i : ℕ) → i < n → τ (σ i) ≡ i)
      → Same n n (product R n (permute σ I) (permute τ I)) I
  permute-inverse n σ τ s τσ i j li lj = permute-product n n (permute τ I) σ s i j li lj ∙ ap (λ x. I x j) (τσ i li)

  -- row i is multiplied by u i
  pub dilate-product : (n m : ℕ) (A : Mat F) (u : ℕ → F) → Same n m (product R n (dilate R u I) A) (dilate R u A)
  unfolding product
  dilate-product n m A u i j li lj =
      simp Ring.mul_assoc (sym (mul-sum R n (u i) (λ l. I i l ⊛ A l j)) ∙ ap (λ x. u i ⊛ x) (identity-product R n m A i j li lj))

  pub product-dilate : (n m : ℕ) (A : Mat F) (u : ℕ → F) → Same n m (product R m A (dilate R u I)) (transpose (dilate R u (transpose A)))
  product-dilate n m A u i j li lj =
      product_turned R m A (dilate R u I) (dilate R u I) i j (λ x _. turned x (ℕ_discrete x j))
      ∙ dilate-product m n (transpose A) u j i lj li
    where
      turned : (x : ℕ) → Dec (x ≡ j) → u x ⊛ I x j ≡ u j ⊛ I j x
      turned x (yes e) = ap₂ (λ y z. u y ⊛ I y z) e (sym e)
      turned x (no ne) = rw (identity-other R x j ne, identity-other R j x (λ e. ne (sym e))) (simp ring)

  pub dilate-inverse : (n : ℕ) (u w : ℕ → F) → ((i : ℕ) → i < n → u i ⊛ w i ≡ 𝟙)
      → Same n n (product R n (dilate R u I) (dilate R w I)) I
  dilate-inverse n u w h i j li lj =
      dilate-product n n (dilate R w I) u i j li lj
      ∙ sym (Ring.mul_assoc R (u i) (w i) (I i j))
      ∙ ap (λ x. x ⊛ I i j) (h i li)
      ∙ Ring.one-mul R (I i j)
