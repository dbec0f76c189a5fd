-- Products and inverses of matrices of polynomials.
use mathlib.Core.Path.{sym, ◌∙◌, ap}
use Prim.Native.Nat.{ℕ}
use Rattle.theory_algebra.specs.Ring.{CommRing}
use Rattle.theory_algebra.specs.Matrix.{Same, product, identity}
use Rattle.theory_rings.specs.Series.{series}
use Rattle.theory_rings.proofs.Polynomial.{polynomial-product, polynomial-identity}
use Rattle.theory_algebra.proofs.Matrix.{same_refl, same-sym, product-assoc, product-same, identity-product}
use Rattle.theory_lattice.specs.Row.{Row}
use Rattle.theory_lattice.specs.PolynomialMatrix.{PolMat, Inverses, Transformed}

module _ {F : Type 0} (R : CommRing F) where
  abbrev times : ℕ → (ℕ → Row F) → (ℕ → Row F) → ℕ → Row F
  times = product (series R)

  abbrev I : ℕ → Row F
  I = identity (series R)

  -- (A B) C = D where B C = C' and A C' = D
  pub chain : (n m : ℕ) (A B C C' D : ℕ → Row F) → Same n m (times n B C) C' → Same n m (times n A C') D → Same n m (times n (times n A B) C) D
  chain n m A B C C' D h g i j li lj =
      ap (λ M. M i j) (product-assoc (series R) n n A B C)
      ∙ product-same (series R) n n m A A (times n B C) C' (same_refl n n A) h i j li lj
      ∙ g i j li lj

  -- B (B' C) = C where B B' = 1
  pub cancel_left : (n m : ℕ) (B B' C : ℕ → Row F) → Same n n (times n B B') I → Same n m (times n B (times n B' C)) C
  cancel_left n m B B' C h i j li lj =
      ap (λ M. M i j) (sym (product-assoc (series R) n n B B' C))
      ∙ product-same (series R) n n m (times n B B') I C C h (same_refl n m C) i j li lj
      ∙ identity-product (series R) n m C i j li lj

  pub inverse-sym : (n : ℕ) (U V' : ℕ → Row F) → Inverses R n U V' → Inverses R n V' U
  inverse-sym n U V' v = record {
    left_polynomial = v.right_polynomial;
    right_polynomial = v.left_polynomial;
    left_right = v.right_left;
    right_left = v.left_right;
  }

  pub inverse-identity : (n : ℕ) → Inverses R n I I
  inverse-identity n = record {
    left_polynomial = λ i j _ _. polynomial-identity R i j;
    right_polynomial = λ i j _ _. polynomial-identity R i j;
    left_right = identity-product (series R) n n I;
    right_left = identity-product (series R) n n I;
  }

  -- (A B) (B' A') = 1
  product-right : (n : ℕ) (A A' B B' : ℕ → Row F) → Inverses R n A A' → Inverses R n B B' → Same n n (times n (times n A B) (times n B' A')) I
  product-right n A A' B B' a b = chain n n A B (times n B' A') A' I (cancel_left n n B B' A' b.left_right) a.left_right

  product-polynomial : (n : ℕ) (A B : ℕ → Row F) → PolMat R n n A → PolMat R n n B → PolMat R n n (times n A B)
  product-polynomial n A B a b i j li lj = polynomial-product R n A B i j (λ k lk. a i k li lk) (λ k lk. b k j lk lj)

  pub inverse-product : (n : ℕ) (A A' B B' : ℕ → Row F) → Inverses R n A A' → Inverses R n B B' → Inverses R n (times n A B) (times n B' A')
  inverse-product n A A' B B' a b = record {
    left_polynomial = product-polynomial n A B a.left_polynomial b.left_polynomial;
    right_polynomial = product-polynomial n B' A' b.right_polynomial a.right_polynomial;
    left_right = product-right n A A' B B' a b;
    right_left = product-right n B' B A' A (inverse-sym n B B' b) (inverse-sym n A A' a);
  }

  -- only the first rows and columns count
  pub transformed-same : (n m : ℕ) (A B B₁ U U₁ V' V₁ : ℕ → Row F) → Same n m B B₁ → Same n n U U₁ → Same n n V' V₁
      → Transformed R n m A B U V' → Transformed R n m A B₁ U₁ V₁
  transformed-same n m A B B₁ U U₁ V' V₁ b u v t = record {
    inverse = record {
      left_polynomial = λ i j li lj. rw (u i j li lj) at (t.inverse.left_polynomial i j li lj);
      right_polynomial = λ i j li lj. rw (v i j li lj) at (t.inverse.right_polynomial i j li lj);
      left_right = λ i j li lj. product-same (series R) n n n U₁ U V₁ V' u' v' i j li lj ∙ t.inverse.left_right i j li lj;
      right_left = λ i j li lj. product-same (series R) n n n V₁ V' U₁ U v' u' i j li lj ∙ t.inverse.right_left i j li lj;
    };
    forth = λ i j li lj. product-same (series R) n n m U₁ U A A u' (same_refl n m A) i j li lj ∙ t.forth i j li lj ∙ b i j li lj;
    back = λ i j li lj. product-same (series R) n n m V₁ V' B₁ B v' (same-sym n m B B₁ b) i j li lj ∙ t.back i j li lj;
  }
    where
      u' : Same n n U₁ U
      u' = same-sym n n U U₁ u

      v' : Same n n V₁ V'
      v' = same-sym n n V' V₁ v
