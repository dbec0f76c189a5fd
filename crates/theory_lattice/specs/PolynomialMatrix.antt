-- Matrices of polynomials, the invertible ones among them, transformed and left-equivalent matrices.
use Rattle.std.specs.Prelude.{ℕ, ◌<◌}
use Rattle.theory_algebra.specs.Ring.{CommRing}
use Rattle.theory_algebra.specs.Polynomial.{IsPolynomial}
use Rattle.theory_algebra.specs.Matrix.{Same, product, identity}
use Rattle.theory_rings.specs.Series.{series}
use Rattle.theory_lattice.specs.Row.{Row, Bounded}

module _ {F : Type 0} (R : CommRing F) where
  -- n rows and m columns of polynomials
  abbrev pub PolMat : ℕ → ℕ → (ℕ → Row F) → Type 0
  PolMat n m A = (i j : ℕ) → i < n → j < m → IsPolynomial R (A i j)

  -- n rows and m columns of polynomials of `size` places
  abbrev pub AllBounded : ℕ → ℕ → ℕ → (ℕ → Row F) → Type 0
  AllBounded n m size A = (i : ℕ) → i < n → Bounded R m size (A i)

  -- U and V' are matrices of polynomials, n by n, and inverse to one another (`V` is a reserved word)
  pub record Inverses (n : ℕ) (U V' : ℕ → Row F) : Type 0 where
    pub left_polynomial : PolMat n n U
    pub right_polynomial : PolMat n n V'
    pub left_right : Same n n (product (series R) n U V') (identity (series R))
    pub right_left : Same n n (product (series R) n V' U) (identity (series R))

  -- A with n rows and m columns was transformed to B: U A = B and V' B = A
  pub record Transformed (n m : ℕ) (A B U V' : ℕ → Row F) : Type 0 where
    pub inverse : Inverses n U V'
    pub forth : Same n m (product (series R) n U A) B
    pub back : Same n m (product (series R) n V' B) A

  -- A and B with n rows and m columns are left-equivalent:
  -- "a square polynomial matrix with a polynomial inverse, multiplied from the left, turns the one into the other"
  pub record LeftEquivalent (n m : ℕ) (A B : ℕ → Row F) : Type 0 where
    pub W : ℕ → Row F
    pub W' : ℕ → Row F
    pub inverse : Inverses n W W'
    pub carries : Same n m (product (series R) n W A) B
