-- A product with a sign.
use Rattle.std.specs.Prelude.{List, ℕ, ◌-◌, ◌%◌, ◌≤◌, cond, eqb, length}
use Rattle.theory_algebra.specs.Ring.{CommRing}
use Rattle.poly.specs.arithmetic.Operations.{product_of, ProductAsked, scaled_by}
use Rattle.matrix_determinant.specs.declared.product.Sign.{Sign}
use Rattle.matrix_determinant.specs.declared.product.Sign.TheVariants.{Plus, Minus}

-- the sign of (-1)^e
abbrev pub sign_of : ℕ → Sign
sign_of e = cond (eqb (e % 2) 1) Minus Plus

-- the unit of a sign modulo p: -1 is p - 1
abbrev pub unit_of : ℕ → Sign → ℕ
unit_of p Plus = 1
unit_of p Minus = p - 1

-- a times b with the sign, modulo p, in as many places as a has
unfoldable pub signed_product : ℕ → Sign → List ℕ → List ℕ → List ℕ
signed_product p sign a b = scaled_by p (unit_of p sign) (product_of p a b a)

-- x with the sign, in a ring
abbrev pub signed : {F : Type 0} → CommRing F → Sign → F → F
signed R Plus x = x
signed R Minus x = R.neg x

-- no term of a times b falls outside the places of a, of which there are at most 512
pub record MultiplyAsked (p : ℕ) (a b : List ℕ) : Type 0 where
  pub product : ProductAsked p a b a
  pub places_most : length a ≤ 512
