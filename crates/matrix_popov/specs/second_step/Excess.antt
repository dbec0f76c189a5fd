-- The excesses of the rows of a matrix in a buffer, by numbers.
use Rattle.std.specs.Prelude.{◌≡◌, List, ℕ, ◌+◌, ◌*◌, ◌-◌, ◌≤◌, ◌<◌, length, get_or, Option, Some, None}
use Rattle.theory_lists.specs.Part.{part}
use Rattle.poly.specs.Polynomial.{used_places}
use Rattle.matrix_pivots.specs.Pivot.{zero_row, index_at, degree_at}
use Rattle.matrix_pivots.specs.declared.pivot.Pivot.{Pivot}
use Rattle.matrix_steps.specs.multiple.Asked.{CoefficientAsked}
use Rattle.matrix_popov.specs.declared.second_step.Found.{Found}

-- the cell of row i in column j, counted from 0
abbrev pub cell_of : ℕ → ℕ → List ℕ → ℕ → ℕ → List ℕ
cell_of m w r i j = part (i * (m * w) + j * w) w r

-- "the degree of row k in i's pivot column, less i's pivot degree", by i's pivot: one more than it, and 0 where it is negative
abbrev pub excess_of : ℕ → ℕ → List ℕ → ℕ → Pivot → ℕ
excess_of m w r k x = used_places (cell_of m w r k (x.index.0 - 1)) - (x.degree.0 - 1)

-- the same for the rows of these pivots
abbrev pub excess_at : ℕ → ℕ → List ℕ → List Pivot → ℕ → ℕ → ℕ
excess_at m w r pivots k i = excess_of m w r k (get_or pivots i zero_row)

-- row k, and the pivots of the rows before it, which are not zero
pub record HighestAsked (m w k : ℕ) (r : List ℕ) (pivots : List Pivot) : Type 0 where
  pub before : k ≤ length pivots
  pub rows : (i : ℕ) → i < k → CoefficientAsked m w k (index_at pivots i) (degree_at pivots i) r

-- of the rows before k with the excesses h, one more than each, "the greatest of these" is e, and `at` "the row that has it (the lowest
-- such row)"
pub record Greatest (k : ℕ) (h : ℕ → ℕ) (at e : ℕ) : Type 0 where
  pub fits : at < k
  pub has : h at ≡ e + 1
  pub greatest : (j : ℕ) → j < k → h j ≤ e + 1
  pub lowest : (j : ℕ) → j < at → h j ≤ e

-- where one has an excess, that row
abbrev pub IsHighest : ℕ → (ℕ → ℕ) → Option Found → Type 0
IsHighest k h None = (j : ℕ) → j < k → h j ≡ 0
IsHighest k h (Some x) = Greatest k h x.at x.exponent
