-- What it is to take a row out.
use Rattle.std.specs.Prelude.{◌≡◌, List, ℕ, suc, Option, None, Some, ◌+◌, ◌*◌, ◌-◌, ◌<◌, length, take}
use Rattle.theory_lists.specs.Part.{part}
use Rattle.matrix_pivots.specs.Pivot.{index_at}
use Rattle.matrix_pivots.specs.declared.pivot.Pivot.{Pivot}
use Rattle.matrix_determinant.specs.LastColumn.{Parted}
use Rattle.matrix_determinant.specs.SignedProduct.{sign_of, signed_product, MultiplyAsked}
use Rattle.matrix_determinant.specs.Sizes.{places, cells}

-- k is the lowest row whose pivot index is 0
pub record Lowest (pivots : List Pivot) (k : ℕ) : Type 0 where
  pub fits : k < length pivots
  pub zero : index_at pivots k ≡ 0
  pub lowest : (i : ℕ) → i < k → ¬ (index_at pivots i ≡ 0)

-- "Of several zero rows the lowest is taken", if there is one
abbrev pub LowestZero : List Pivot → Option ℕ → Type 0
LowestZero pivots None = (i : ℕ) → i < length pivots → ¬ (index_at pivots i ≡ 0)
LowestZero pivots (Some k) = Lowest pivots k

-- m + 1 rows of which one is zero in the first m columns, the parted column in cells of `wide` places, and room for the columns of the
-- rows that are left; no term of the entry of the lowest zero row times the product falls outside
pub record TakeAsked (p m w wide : ℕ) (pivots : List Pivot) (r column next product : List ℕ) : Type 0 where
  pub columns : 0 < m
  pub rows : length pivots ≡ suc m
  pub r_size : length r ≡ places m w
  pub column_size : length column ≡ suc m * (1 * wide)
  pub next_size : length next ≡ places (m - 1) w
  pub some : ¬ (LowestZero pivots None)
  pub row : (k : ℕ) → Lowest pivots k → MultiplyAsked p product (part (k * wide) wide column)

-- the lowest zero row k is taken out: its entry in the parted column, with the sign of Figure 4, is a factor, `next` has all columns but
-- the last of the rows that are left, and the first cells of `column` their last one. Rows are counted from 0 here, so that the exponent
-- of Figure 4 is k + m.
pub record TakenOut (p m w wide : ℕ) (pivots : List Pivot) (r column product next' column' product' : List ℕ) : Type 0 where
  pub k : ℕ
  pub lowest : LowestZero pivots (Some k)
  pub factor : product' ≡ signed_product p (sign_of (k + m)) product (part (k * wide) wide column)
  pub parted : Parted (m - 1) w wide k r next' (take (cells (m - 1) wide) column')
