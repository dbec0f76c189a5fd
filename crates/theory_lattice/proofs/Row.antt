-- The laws of rows: multiples and sums that are zero, combinations by one row more, and combinations of combinations.
use mathlib.Core.Path.{◌≡◌, ◌∙◌, ap}
use mathlib.Core.Logic.{◌⊎◌, inl, inr}
use Prim.Native.Nat.{ℕ, zero, suc, ◌-◌, ◌<◌}
use native.Mathlib.Omega.{arith}
use Rattle.theory_algebra.specs.Ring.{CommRing}
use Rattle.theory_algebra.specs.Polynomial.{IsPolynomial}
use Rattle.theory_algebra.specs.Matrix.{Same, product, identity}
use Rattle.theory_algebra.proofs.Ring as Ring
use Rattle.theory_algebra.proofs.Sum.{sum-nil, sum-suc, sum-null}
use Rattle.theory_rings.specs.Series.{series}
use Rattle.theory_rings.proofs.Series.{add_at, mul_at, zero-at}
use Rattle.theory_rings.proofs.Polynomial.{polynomial-product}
use Rattle.theory_algebra.proofs.Matrix.{same_refl, product-assoc, product-same, product-identity}
use Rattle.theory_lattice.specs.Term.{Term, term}
use Rattle.theory_lattice.specs.Row.{Row, coef, Null, plus, scale, comb}
use Rattle.theory_lattice.specs.PolynomialMatrix.{PolMat}

module _ {F : Type 0} (R : CommRing F) where
  infixl 65 ◌⊕◌
  infixl 70 ◌⊛◌
  open R use {add as ◌⊕◌, mul as ◌⊛◌, 𝟘}

  -- q r is a zero row because one of the two is zero
  abbrev pub Idle : ℕ → (ℕ → F) → Row F → Type 0
  Idle m q r = Null R m r ⊎ (q ≡ (λ _. 𝟘))

  pub idle-null : (m : ℕ) (q : ℕ → F) (r : Row F) → Idle m q r → Null R m (scale R q r)
  unfolding scale
  idle-null m q r z t l = mul_at R q (r t.col) t.deg ∙ sum-null R (suc t.deg) _ (λ i _. vanish z i)
    where
      vanish : Idle m q r → (i : ℕ) → q i ⊛ r t.col (t.deg - i) ≡ 𝟘
      vanish (inl z) i = ap (λ x. q i ⊛ x) (z (term t.col (t.deg - i)) l) ∙ Ring.mul-zero R _
      vanish (inr e) i = ap (λ f. f i ⊛ r t.col (t.deg - i)) e ∙ Ring.zero-mul R _

  pub plus-null : (m : ℕ) (f g : Row F) → Null R m g → (t : Term) → t.col < m → coef (plus R f g) t ≡ coef f t
  unfolding plus
  plus-null m f g z t l = add_at R (f t.col) (g t.col) t.deg ∙ ap (λ x. coef f t ⊕ x) (z t l) ∙ Ring.add-zero R _

  pub plus_comm : (f g : Row F) (t : Term) → coef (plus R f g) t ≡ coef (plus R g f) t
  unfolding plus
  plus_comm f g t = ap (λ h. h t.deg) (Ring.add_comm (series R) (f t.col) (g t.col))

  -- one row more
  pub comb-suc : (n : ℕ) (q : ℕ → ℕ → F) (M : ℕ → Row F) (t : Term)
      → coef (comb R (suc n) q M) t ≡ coef (plus R (comb R n q M) (scale R (q n) (M n))) t
  unfolding comb plus scale
  comb-suc n q M t = ap (λ f. f t.deg) (sum-suc (series R) n _)

  pub comb-null : (n m : ℕ) (q : ℕ → ℕ → F) (M : ℕ → Row F) → ((i : ℕ) → i < n → Idle m (q i) (M i)) → Null R m (comb R n q M)
  comb-null zero m q M h t l = unfold comb in ap (λ f. f t.deg) (sum-nil (series R) _) ∙ zero-at R t.deg
  comb-null (suc n) m q M h t l =
      comb-suc n q M t
      ∙ plus-null m (comb R n q M) (scale R (q n) (M n)) (idle-null m (q n) (M n) (h n (omega arith))) t l
      ∙ comb-null n m q M (λ i p. h i (omega arith)) t l

  -- a combination of the rows of M is a row of a product
  pub comb-polynomial : (n m : ℕ) (q : ℕ → ℕ → F) (M : ℕ → Row F) → ((i : ℕ) → i < n → IsPolynomial R (q i)) → PolMat R n m M
      → (c : ℕ) → c < m → IsPolynomial R (comb R n q M c)
  unfolding comb product
  comb-polynomial n m q M p a c l = polynomial-product R n (λ _. q) M 0 c p (λ k lk. a k c lk l)

  pub comb-comb : (n : ℕ) (q : ℕ → ℕ → F) (X Y : ℕ → Row F) → comb R n (comb R n q X) Y ≡ comb R n q (product (series R) n X Y)
  unfolding comb product
  comb-comb n q X Y = ap (λ M. M 0) (product-assoc (series R) n n (λ _. q) X Y)

  pub comb-same : (n m : ℕ) (q : ℕ → ℕ → F) (X Y : ℕ → Row F) → Same n m X Y → (c : ℕ) → c < m → comb R n q X c ≡ comb R n q Y c
  unfolding comb product
  comb-same n m q X Y h c l = product-same (series R) 1 n m (λ _. q) (λ _. q) X Y (same_refl 1 n (λ _. q)) h 0 c (omega arith) l

  pub comb-identity : (n : ℕ) (q : ℕ → ℕ → F) (j : ℕ) → j < n → comb R n q (identity (series R)) j ≡ q j
  unfolding comb product
  comb-identity n q j l = product-identity (series R) 1 n (λ _. q) 0 j (omega arith) l
