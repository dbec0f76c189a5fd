-- Moves: multiplication of a transformed matrix from the left by an invertible matrix, and row operations as such.
use mathlib.Core.Logic.{◌≢◌}
use Prim.Native.Nat.{ℕ, ◌<◌}
use Rattle.theory_algebra.specs.Ring.{CommRing}
use Rattle.theory_algebra.specs.Polynomial.{IsPolynomial}
use Rattle.theory_algebra.specs.Matrix.{transpose, product, identity, addrow}
use Rattle.theory_algebra.proofs.Ring as Ring
use Rattle.theory_rings.specs.Series.{series}
use Rattle.theory_rings.proofs.Polynomial.{polynomial-add, polynomial-neg, polynomial-mul, polynomial-identity}
use Rattle.theory_algebra.proofs.Matrix.{same_refl, identity-product}
use Rattle.theory_algebra.proofs.Elementary.{addrow-at, addrow-product, product-addrow, addrow-inverse}
use Rattle.theory_lattice.specs.Row.{Row}
use Rattle.theory_lattice.specs.PolynomialMatrix.{Inverses, Transformed}
use Rattle.theory_lattice.proofs.PolynomialMatrix.{chain, cancel_left, inverse-identity, inverse-product, transformed-same}

module _ {F : Type 0} (R : CommRing F) where
  abbrev S : CommRing (ℕ → F)
  S = series R

  -- the start: B = A, U = V' = 1
  pub start : (n m : ℕ) (A : ℕ → Row F) → Transformed R n m A A (identity S) (identity S)
  start n m A = record { inverse = inverse-identity R n; forth = identity-product S n m A; back = identity-product S n m A }

  -- U and V' follow a move E with the inverse E'
  pub move : (n m : ℕ) (A B U V' E E' : ℕ → Row F) → Inverses R n E E' → Transformed R n m A B U V'
      → Transformed R n m A (product S n E B) (product S n E U) (product S n V' E')
  move n m A B U V' E E' e t = record {
    inverse = inverse-product R n E E' U V' e t.inverse;
    forth = chain R n m E U A B (product S n E B) t.forth (same_refl n m _);
    back = chain R n m V' E' (product S n E B) B A (cancel_left R n m E' E B e.right_left) t.back;
  }

  -- the matrix that adds q times row k to row l
  abbrev adder : ℕ → ℕ → (ℕ → F) → ℕ → Row F
  adder l k q = addrow S (identity S) l k q

  adder-polynomial : (l k : ℕ) (q : ℕ → F) → IsPolynomial R q → (i j : ℕ) → IsPolynomial R (adder l k q i j)
  adder-polynomial l k q p i j = rw (addrow-at S (identity S) l k q i j)
      (polynomial-add R _ _ (polynomial-identity R i j)
      (polynomial-mul R _ _ (polynomial-identity R i l) (polynomial-mul R _ _ p (polynomial-identity R k j))))

  subtracter : (n l k : ℕ) (q : ℕ → F) → IsPolynomial R q → k < n → l ≢ k → Inverses R n (adder l k (S.neg q)) (adder l k q)
  subtracter n l k q p lk ne = record {
    left_polynomial = λ i j _ _. adder-polynomial l k (S.neg q) (polynomial-neg R q p) i j;
    right_polynomial = λ i j _ _. adder-polynomial l k q p i j;
    left_right = λ i j li lj. rw (Ring.neg-neg S q) at (addrow-inverse S n l k (S.neg q) lk ne i j li lj);
    right_left = addrow-inverse S n l k q lk ne;
  }

  -- q times row k is taken from row l of B and of U, and q times column l is added to column k of V'
  pub subtract-transformed : (n m : ℕ) (A B U V' : ℕ → Row F) (l k : ℕ) (q : ℕ → F) → IsPolynomial R q → l < n → k < n → l ≢ k
      → Transformed R n m A B U V'
      → Transformed R n m A (addrow S B l k (S.neg q)) (addrow S U l k (S.neg q)) (transpose (addrow S (transpose V') k l q))
  subtract-transformed n m A B U V' l k q p ll lk ne t =
      transformed-same R n m A _ _ _ _ _ _
      (addrow-product S n m B l k (S.neg q) lk)
      (addrow-product S n n U l k (S.neg q) lk)
      (product-addrow S n n V' l k q ll)
      (move n m A B U V' _ _ (subtracter n l k q p lk ne) t)
