-- The laws of matrices: agreement, rows, and products with the identity.
use mathlib.Core.Path.{◌≡◌, refl, sym, ◌∙◌, ap, ap₂, fun_ext}
use mathlib.Core.Logic.{◌≢◌}
use Prim.Native.Nat.{ℕ, ◌<◌}
use native.Mathlib.Decide.{ℕ_discrete}
use Rattle.theory_algebra.specs.Ring.{CommRing}
use Rattle.theory_algebra.specs.Sum.{sum}
use Rattle.theory_algebra.specs.Matrix.{Mat, swap, Same, transpose, setrow, product, identity}
use Rattle.theory_algebra.proofs.Ring as Ring
use Rattle.theory_algebra.proofs.Cases.{if-equal-same, if-equal-other, if-equal-iff}
use Rattle.theory_algebra.proofs.Sum.{sum-cong, sum-add, sum-neg, sum-single, sum-swap, sum-mul, mul-sum}

-- what holds of i with j, of j with i, and of every other number with itself, holds of k with the number that it is exchanged with
pub swap-cases : (C : ℕ → ℕ → Type 0) (i j k : ℕ) → C i j → C j i → (k ≢ i → k ≢ j → C k k) → C k (swap i j k)
unfolding swap
swap-cases C i j k first second other = elim (ℕ_discrete k i) [
  | yes e ↦ rw (e, if-equal-same i j _) first
  | no ni ↦ rw (if-equal-other k i j _ ni) (elim (ℕ_discrete k j) [
    | yes e ↦ rw (e, if-equal-same j i j) second
    | no nj ↦ rw (if-equal-other k j i k nj) (other ni nj)
  ])
]

pub swap-first : (i j : ℕ) → swap i j i ≡ j
swap-first i j = swap-cases (λ k s. k ≡ i → s ≡ j) i j i (λ _. refl) (λ e. sym e) (λ ne _ e. absurd (ne e)) refl

swap-second : (i j : ℕ) → swap i j j ≡ i
swap-second i j = swap-cases (λ k s. k ≡ j → s ≡ i) i j j (λ e. sym e) (λ _. refl) (λ _ ne e. absurd (ne e)) refl

pub swap-other : (i j k : ℕ) → k ≢ i → k ≢ j → swap i j k ≡ k
swap-other i j k ni nj = swap-cases (λ l s. l ≡ k → s ≡ l) i j k (λ e. absurd (ni (sym e))) (λ e. absurd (nj (sym e))) (λ _ _ _. refl) refl

-- exchanged twice, every number is itself again
pub swap-twice : (i j k : ℕ) → swap i j (swap i j k) ≡ k
swap-twice i j k = swap-cases (λ k s. swap i j s ≡ k) i j k (swap-second i j) (swap-first i j) (swap-other i j k)

module _ {F : Type 0} where
  pub same_refl : (n m : ℕ) (A : Mat F) → Same n m A A
  same_refl n m A i j li lj = refl

  pub same-sym : (n m : ℕ) (A B : Mat F) → Same n m A B → Same n m B A
  same-sym n m A B h i j li lj = sym (h i j li lj)

  pub same-trans : (n m : ℕ) (A B C : Mat F) → Same n m A B → Same n m B C → Same n m A C
  same-trans n m A B C h g i j li lj = h i j li lj ∙ g i j li lj

  pub setrow-same : (A : Mat F) (r : ℕ) (u : ℕ → F) → setrow A r u r ≡ u
  unfolding setrow
  setrow-same A r u = if-equal-same r u (A r)

  pub setrow-other : (A : Mat F) (r : ℕ) (u : ℕ → F) (i : ℕ) → i ≢ r → setrow A r u i ≡ A i
  unfolding setrow
  setrow-other A r u i ne = if-equal-other i r u (A i) ne

module _ {F : Type 0} (R : CommRing F) where
  infixl 65 ◌⊕◌
  infixl 70 ◌⊛◌
  open R use {add as ◌⊕◌, mul as ◌⊛◌, neg, 𝟘, 𝟙, mul_comm, mul_assoc}

  pub identity-same : (i : ℕ) → identity R i i ≡ 𝟙
  unfolding identity
  identity-same i = if-equal-same i 𝟙 𝟘

  pub identity-other : (i j : ℕ) → i ≢ j → identity R i j ≡ 𝟘
  unfolding identity
  identity-other i j ne = if-equal-other i j 𝟙 𝟘 ne

  -- an entry of the identity depends only on whether its row and its column are equal
  pub identity-iff : (i j k l : ℕ) → (i ≡ j → k ≡ l) → (k ≡ l → i ≡ j) → identity R i j ≡ identity R k l
  unfolding identity
  identity-iff i j k l f g = if-equal-iff i j k l 𝟙 𝟘 f g

  pub product-assoc : (n m : ℕ) (A B C : Mat F) → product R m (product R n A B) C ≡ product R n A (product R m B C)
  unfolding product
  product-assoc n m A B C = fun_ext (λ i. fun_ext (λ j.
      ap (sum R m) (fun_ext (λ k. sum-mul R n (C k j) (λ l. A i l ⊛ B l k)))
      ∙ sum-swap R m n (λ k l. A i l ⊛ B l k ⊛ C k j)
      ∙ ap (sum R n) (fun_ext (λ l.
      ap (sum R m) (fun_ext (λ k. mul_assoc (A i l) (B l k) (C k j)))
      ∙ sym (mul-sum R m (A i l) (λ k. B l k ⊛ C k j))))))

  pub product-same : (n k m : ℕ) (A A' B B' : Mat F) → Same n k A A' → Same k m B B' → Same n m (product R k A B) (product R k A' B')
  unfolding product
  product-same n k m A A' B B' a b i j li lj = sum-cong R k _ _ (λ l p. ap₂ ◌⊛◌ (a i l li p) (b l j p lj))

  -- a product turned: its rows become columns, and the factors change places
  pub product_turned : (n : ℕ) (A B B' : Mat F) (i j : ℕ) → ((k : ℕ) → k < n → B k j ≡ B' j k)
      → product R n A B i j ≡ product R n B' (transpose A) j i
  unfolding product
  product_turned n A B B' i j h = sum-cong R n _ _ (λ k l. mul_comm (A i k) (B k j) ∙ ap (λ x. x ⊛ A i k) (h k l))

  pub identity-product : (n m : ℕ) (A : Mat F) → Same n m (product R n (identity R) A) A
  unfolding product
  identity-product n m A i j li lj =
      sum-single R n i (λ k. identity R i k ⊛ A k j) li (λ k l ne.
      ap (λ x. x ⊛ A k j) (identity-other i k (λ e. ne (sym e))) ∙ Ring.zero-mul R (A k j))
      ∙ ap (λ x. x ⊛ A i j) (identity-same i)
      ∙ Ring.one-mul R (A i j)

  pub product-identity : (n m : ℕ) (A : Mat F) → Same n m (product R m A (identity R)) A
  product-identity n m A i j li lj =
      product_turned m A (identity R) (identity R) i j (λ k _. identity-iff k j j k sym sym)
      ∙ identity-product m n (transpose A) j i lj li

  -- (A - 1) B = A B - B
  pub less-identity-product : (n m : ℕ) (A B : Mat F)
      → Same n m (product R n (λ i k. A i k ⊕ neg (identity R i k)) B) (λ i j. product R n A B i j ⊕ neg (B i j))
  unfolding product
  less-identity-product n m A B i j li lj = simp (Ring.add-mul, Ring.neg-mul)
      (sum-add R n (λ k. A i k ⊛ B k j) (λ k. neg (identity R i k ⊛ B k j))
      ∙ ap (λ x. sum R n (λ k. A i k ⊛ B k j) ⊕ x) (sum-neg R n (λ k. identity R i k ⊛ B k j) ∙ ap neg (identity-product n m B i j li lj)))
