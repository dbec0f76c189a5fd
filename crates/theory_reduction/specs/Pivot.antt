-- Pivots of rows of m columns and of polynomials with `size` = d + 1 places. Columns are counted from 0,
-- but the pivot index, which is 0 for a zero row, from 1; for the degree stands the height, one more than it.
use Rattle.std.specs.Prelude.{◌≡◌, ◌≢◌, ℕ, zero, suc, ◌-◌, ◌*◌, ◌/◌, ◌%◌, ◌<◌}
use Rattle.theory_algebra.specs.Ring.{CommRing}
use Rattle.theory_algebra.specs.Field.{Field}
use Rattle.theory_algebra.specs.Polynomial.{Below}
use Rattle.theory_lattice.specs.Term.{Term, term}
use Rattle.theory_lattice.specs.Row.{Row, coef}

-- "In a row that is not zero the pivot is the rightmost entry of greatest degree": t is the pivot's leading term
pub record IsPivot {F : Type 0} (R : CommRing F) (m : ℕ) (t : Term) (r : Row F) : Type 0 where
  pub inside : t.col < m
  pub entry : coef r t ≢ R.𝟘
  pub greatest : (c : ℕ) → c < m → Below R (r c) (suc t.deg)
  pub rightmost : (c : ℕ) → c < m → t.col < c → Below R (r c) t.deg

module _ {F : Type 0} (K : Field F) where
  -- one more than the greatest x < n with f x not zero; 0 if there is none
  unfoldable pub top : ℕ → (ℕ → F) → ℕ
  top zero f = 0
  top (suc n) f = elim (K.dec (f n) K.ring.𝟘) [ yes _ ↦ top n f | no _ ↦ suc n ]

  -- the value of a row: D m + I for the pivot index I and the pivot degree D, and 0 for a zero row. The coefficients are looked through
  -- by degree and then by column, from the last one down: the first that is not zero is the leading one of "the rightmost entry of
  -- greatest degree", which is proved (`value-pivot`), as it is that only zero rows have the value 0 (`value-null`).
  unfoldable pub value : ℕ → ℕ → Row F → ℕ
  value m size r = top (size * m) (λ x. r (x % m) (x / m))

  -- the values of the rows of a matrix
  abbrev pub values : ℕ → ℕ → (ℕ → Row F) → ℕ → ℕ
  values m size M i = value m size (M i)

-- the leading term of the pivot of a row of value v > 0
abbrev pub pivot : ℕ → ℕ → Term
pivot m v = term ((v - 1) % m) ((v - 1) / m)

-- "Its column (from 1) is the pivot index I", "A zero row has I = 0"
unfoldable pub index : ℕ → ℕ → ℕ
index m zero = 0
index m (suc x) = suc (pivot m (suc x)).col

-- "its degree the pivot degree D", "A zero row has […] D = -1": the height is D + 1
unfoldable pub height : ℕ → ℕ → ℕ
height m zero = 0
height m (suc x) = suc (pivot m (suc x)).deg

-- rows of values v and w have "the same non-zero pivot index"
pub record Clash (m v w : ℕ) : Type 0 where
  pub nonzero : 0 < index m v
  pub same : index m v ≡ index m w
