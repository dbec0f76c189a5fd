-- Permutations of the rows and multiplications of rows by units as moves, which U and V' follow.
use mathlib.Core.Path.{◌≡◌, ◌∙◌}
use Prim.Native.Nat.{ℕ, ◌<◌}
use Rattle.theory_algebra.specs.Ring.{CommRing}
use Rattle.theory_algebra.specs.Polynomial.{IsPolynomial}
use Rattle.theory_algebra.specs.Matrix.{transpose, identity, permute, dilate}
use Rattle.theory_rings.specs.Series.{series}
use Rattle.theory_rings.proofs.Polynomial.{polynomial-mul, polynomial-identity}
use Rattle.theory_algebra.proofs.Elementary.{permute-product, product-permute, permute-inverse, dilate-product, product-dilate, dilate-inverse}
use Rattle.theory_lattice.specs.Row.{Row}
use Rattle.theory_lattice.specs.PolynomialMatrix.{Inverses, Transformed}
use Rattle.theory_lattice.proofs.PolynomialMatrix.{transformed-same}
use Rattle.theory_lattice.proofs.Moves.{move}
use Rattle.theory_lists.proofs.Permutation.{Permutation}

module _ {F : Type 0} (R : CommRing F) (n m : ℕ) (A B U V' : ℕ → Row F) where
  abbrev S : CommRing (ℕ → F)
  S = series R

  -- row i is row σ i
  permuter : {σ τ : ℕ → ℕ} → Permutation n σ τ → Inverses R n (permute σ (identity S)) (permute τ (identity S))
  permuter {σ} {τ} p = record {
    left_polynomial = λ i j _ _. polynomial-identity R (σ i) j;
    right_polynomial = λ i j _ _. polynomial-identity R (τ i) j;
    left_right = permute-inverse S n σ τ p.fits p.there_back;
    right_left = permute-inverse S n τ σ p.back_fits p.back-there;
  }

  pub permute-transformed : {σ τ : ℕ → ℕ} → Permutation n σ τ → Transformed R n m A B U V'
      → Transformed R n m A (permute σ B) (permute σ U) (transpose (permute σ (transpose V')))
  permute-transformed {σ} {τ} p t =
      transformed-same R n m A _ _ _ _ _ _
      (permute-product S n m B σ p.fits)
      (permute-product S n n U σ p.fits)
      (product-permute S n n V' τ σ p.fits p.there_back p.back-there)
      (move R n m A B U V' _ _ (permuter p) t)

  -- row i is multiplied by u i, whose inverse is w i
  module _ (u w : ℕ → ℕ → F) (pu : (i : ℕ) → i < n → IsPolynomial R (u i)) (pw : (i : ℕ) → i < n → IsPolynomial R (w i))
      (units : (i : ℕ) → i < n → S.mul (u i) (w i) ≡ S.𝟙) where
    dilater : Inverses R n (dilate S u (identity S)) (dilate S w (identity S))
    dilater = record {
      left_polynomial = λ i j li _. polynomial-mul R _ _ (pu i li) (polynomial-identity R i j);
      right_polynomial = λ i j li _. polynomial-mul R _ _ (pw i li) (polynomial-identity R i j);
      left_right = dilate-inverse S n u w units;
      right_left = dilate-inverse S n w u (λ i l. S.mul_comm (w i) (u i) ∙ units i l);
    }

    pub dilate-transformed : Transformed R n m A B U V' → Transformed R n m A (dilate S u B) (dilate S u U) (transpose (dilate S w (transpose V')))
    dilate-transformed t =
        transformed-same R n m A _ _ _ _ _ _
        (dilate-product S n m B u) (dilate-product S n n U u) (product-dilate S n n V' w) (move R n m A B U V' _ _ dilater t)
