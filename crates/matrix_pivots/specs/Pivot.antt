-- Pivots of rows in lists: m cells of w places each. The pivots of a matrix are a list, one for each row.
use Rattle.std.specs.Prelude.{◌≡◌, ◌==◌, not, List, ℕ, ◌*◌, ◌+◌, ◌-◌, ◌/◌, ◌%◌, ◌≤◌, ◌<◌, min, length, get_or, fold, sum_by, count_by}
use Rattle.theory_lists.specs.Last.{last_nonzero}
use Rattle.theory_lists.specs.Part.{part}
use Rattle.theory_reduction.specs.Pivot.{index, height}
use Rattle.matrix_pivots.specs.declared.pivot.Pivot.{Pivot}

-- the number D·m + I of a row, for the pivot index I and the pivot degree D; 0 for a zero row.
-- The coefficients are looked through by degree and then by column, from the last one down.
unfoldable pub value_of : ℕ → ℕ → List ℕ → ℕ
value_of m w row = last_nonzero (w * m) (λ x. get_or row (x % m * w + x / m) 0)

-- row i of a matrix
abbrev pub row_of : ℕ → ℕ → List ℕ → ℕ → List ℕ
row_of m w r i = part (i * (m * w)) (m * w) r

-- the values of the rows of a matrix
abbrev pub values_of : ℕ → ℕ → List ℕ → ℕ → ℕ
values_of m w r i = value_of m w (row_of m w r i)

-- and their pivot degrees, that of a zero row counting as 0
abbrev pub degrees_of : ℕ → ℕ → List ℕ → ℕ → ℕ
degrees_of m w r i = height m (values_of m w r i) - 1

-- x and d are the pivot index and one more than the pivot degree of a row of value v
pub record IsPivotOf (m v x d : ℕ) : Type 0 where
  pub index_is : x ≡ index m v
  pub degree_is : d ≡ height m v

-- a row, and a degree to look at
pub record Line (m w t : ℕ) (row : List ℕ) : Type 0 where
  pub size : length row ≡ m * w
  pub columns : 0 < m
  pub degree : t < w

-- a row that has no coefficient from degree top on
pub record RowAsked (m w top : ℕ) (row : List ℕ) : Type 0 where
  pub size : length row ≡ m * w
  pub columns : 0 < m
  pub within : top ≤ w
  pub zeros : (c t : ℕ) → c < m → top ≤ t → t < w → get_or row (c * w + t) 0 ≡ 0

-- row l of a matrix, that has no coefficient from degree top on
pub record RowOfAsked (m w l top : ℕ) (r : List ℕ) : Type 0 where
  pub row : l * (m * w) + m * w ≤ length r
  pub columns : 0 < m
  pub within : top ≤ w
  pub zeros : (c t : ℕ) → c < m → top ≤ t → t < w → get_or r (l * (m * w) + (c * w + t)) 0 ≡ 0

-- a matrix of n rows
pub record MatrixAsked (n m w : ℕ) (r : List ℕ) : Type 0 where
  pub size : length r ≡ n * (m * w)
  pub rows : n ≤ 8
  pub columns : 0 < m

-- "A zero row has I = 0 and D = -1."
abbrev pub zero_row : Pivot
zero_row = record { index = record { 0 = 0 }; degree = record { 0 = 0 } }

-- the pivot index of row i
abbrev pub index_at : List Pivot → ℕ → ℕ
index_at pivots i = (get_or pivots i zero_row).index.0

-- one more than the pivot degree of row i
abbrev pub degree_at : List Pivot → ℕ → ℕ
degree_at pivots i = (get_or pivots i zero_row).degree.0

-- the pivots of n rows of values v
pub record Pivots (n m : ℕ) (v : ℕ → ℕ) (pivots : List Pivot) : Type 0 where
  pub row : (i : ℕ) → i < n → IsPivotOf m (v i) (index_at pivots i) (degree_at pivots i)

-- the pivots of n rows and of no other: from n on stand those of zero rows
pub record AllPivots (n m : ℕ) (v : ℕ → ℕ) (pivots : List Pivot) : Type 0 where
  pub pivots_are : Pivots n m v pivots
  pub rest : (i : ℕ) → n ≤ i → get_or pivots i zero_row ≡ zero_row
  pub size : length pivots ≡ 8

-- the least of the pivot degrees, that of a zero row counting as 0, or w where that is less
abbrev pub least_degree : ℕ → List Pivot → ℕ
least_degree w pivots = fold (λ least pivot. min least (pivot.degree.0 - 1)) w pivots

-- how many rows are not zero
abbrev pub nonzero_rows : List Pivot → ℕ
nonzero_rows pivots = count_by (λ pivot. not (pivot.index.0 == 0)) pivots

-- the pivot degrees together, that of a zero row counting as 0
abbrev pub degrees_together : List Pivot → ℕ
degrees_together pivots = sum_by (λ pivot. pivot.degree.0 - 1) pivots
