-- Rows of polynomials: zero rows, bounds on the degree, sums, multiples and combinations.
use Rattle.std.specs.Prelude.{◌≡◌, ℕ, ◌<◌}
use Rattle.theory_algebra.specs.Ring.{CommRing}
use Rattle.theory_algebra.specs.Sum.{sum}
use Rattle.theory_algebra.specs.Polynomial.{Below}
use Rattle.theory_rings.specs.Series.{series}
use Rattle.theory_lattice.specs.Term.{Term}

-- r c k is the coefficient at x^k in column c
abbrev pub Row : Type 0 → Type 0
Row F = ℕ → ℕ → F

abbrev pub coef : {F : Type 0} → Row F → Term → F
coef r t = r t.col t.deg

module _ {F : Type 0} (R : CommRing F) where
  -- the first m columns are zero
  abbrev pub Null : ℕ → Row F → Type 0
  Null m r = (t : Term) → t.col < m → coef r t ≡ R.𝟘

  -- the polynomials in the first m columns have `size` places: no term of degree `size` or more
  abbrev pub Bounded : ℕ → ℕ → Row F → Type 0
  Bounded m size r = (c : ℕ) → c < m → Below R (r c) size

  -- row plus row, polynomial times row, and the sum of q i times row i of M over i < n
  unfoldable pub plus : Row F → Row F → Row F
  plus f g c = (series R).add (f c) (g c)

  unfoldable pub scale : (ℕ → F) → Row F → Row F
  scale q r c = (series R).mul q (r c)

  unfoldable pub comb : ℕ → (ℕ → ℕ → F) → (ℕ → Row F) → Row F
  comb n q M c = sum (series R) n (λ i. (series R).mul (q i) (M i c))
