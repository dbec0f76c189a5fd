-- The steps of the second kind: "go through the non-zero rows from the top. For row k look at each earlier row i: the degree of
-- row k in i's pivot column, less i's pivot degree. While the greatest of these is not negative, subtract the multiple c·x^e of
-- the row that has it (the lowest such row) that removes that term."
use Rattle.std.specs.Prelude.{◌≡◌, ℕ, ◌-◌, ◌≤◌, ◌<◌}
use Rattle.theory_algebra.specs.Field.{Field}
use Rattle.theory_algebra.specs.Series.{mono}
use Rattle.theory_lattice.specs.Term.{Term, up}
use Rattle.theory_lattice.specs.Row.{Row, coef}
use Rattle.theory_reduction.specs.Pivot.{top, value, pivot}
use Rattle.theory_reduction.specs.Step.{Carried, carry, leading}

-- of the rows before k, with the excesses h, one has an excess: the lowest row that has the greatest
pub record Highest (k : ℕ) (h : ℕ → ℕ) : Type 0 where
  pub at : ℕ
  pub fits : at < k
  pub some : 0 < h at
  pub greatest : (j : ℕ) → j < k → h j ≤ h at
  pub lowest : (j : ℕ) → j < at → h j < h at

-- the next step, by the excesses x k i of n rows: row k is the first that has an excess over an earlier row; a zero row has none
pub record Removal (n : ℕ) (x : ℕ → ℕ → ℕ) : Type 0 where
  pub k : ℕ
  pub fits : k < n
  pub highest : Highest k (x k)
  pub done : (a j : ℕ) → j < a → a < k → x a j ≡ 0

-- there is no such row
abbrev pub NoRemoval : ℕ → (ℕ → ℕ → ℕ) → Type 0
NoRemoval n x = (a j : ℕ) → j < a → a < n → x a j ≡ 0

module _ {F : Type 0} (K : Field F) (m size : ℕ) where
  -- the leading term of the pivot of r
  abbrev pub pivot_of : Row F → Term
  pivot_of r = pivot m (value K m size r)

  -- "the degree of row k in i's pivot column, less i's pivot degree", for the rows k and i: one more than it, and 0 where it is negative.
  -- Row i may not be a zero row, which has no pivot column; none is asked for, since zero rows stand last and a zero row k has no
  -- excess over any (`zero-excess`).
  unfoldable pub excess : Row F → Row F → ℕ
  excess k i = top K size (k (pivot_of i).col) - (pivot_of i).deg

  -- the excesses of the rows of a matrix
  abbrev pub excesses : (ℕ → Row F) → ℕ → ℕ → ℕ
  excesses M k i = excess (M k) (M i)

  -- "that term" of row k, by which it has the excess over row i: it is x^e times the leading term of i's pivot
  abbrev pub exponent : Row F → Row F → ℕ
  exponent k i = excess k i - 1

  abbrev pub excessive : Row F → Row F → Term
  excessive k i = up (exponent k i) (pivot_of i)

  -- "the multiple c·x^e of the row that has it […] that removes that term": c x^e
  unfoldable pub remover : Row F → Row F → ℕ → F
  remover k i = mono K.ring (K.ring.mul (coef k (excessive k i)) (K.inv (leading K m size i))) (exponent k i)

  -- the step: "subtract the multiple", "U and V follow every move"
  unfoldable pub remove : {n : ℕ} (t : Carried F) → Removal n (excesses t.R) → Carried F
  remove t p = let i = p.highest.at in carry K.ring p.k i (remover (t.R p.k) (t.R i)) t
