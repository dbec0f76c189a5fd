-- The two rows of a step, by the pivots of the rows. Rows are counted from 0.
use Rattle.std.specs.Prelude.{◌≡◌, ◌⊎◌, List, ℕ, ◌≤◌, ◌<◌, length, Option, Some, None}
use Rattle.theory_reduction.specs.Pair as Reduction
use Rattle.matrix_pivots.specs.Pivot.{index_at, degree_at}
use Rattle.matrix_pivots.specs.Columns.{Meets}
use Rattle.matrix_pivots.specs.declared.pivot.Pivot.{Pivot}
use Rattle.matrix_pivots.specs.declared.next_pair.Pair.{Pair}

-- b is the lowest row after a that meets a
pub record IsPartner (pivots : List Pivot) (a b : ℕ) : Type 0 where
  pub ordered : a < b
  pub fits : b < length pivots
  pub meets : Meets pivots a b
  pub lowest : (j : ℕ) → a < j → j < b → ¬ (Meets pivots a j)

-- the partner of a, if it has one
abbrev pub Partner : List Pivot → ℕ → Option ℕ → Type 0
Partner pivots a None = (j : ℕ) → a < j → j < length pivots → ¬ (Meets pivots a j)
Partner pivots a (Some b) = IsPartner pivots a b

-- what the choice asks: the pivots of rows of at most eight columns
pub record NextAsked (pivots : List Pivot) : Type 0 where
  pub rows : length pivots ≤ 8
  pub few : (i : ℕ) → i < length pivots → index_at pivots i ≤ 8

-- "Take the lowest row a for which a later row has the same non-zero pivot index, and the lowest such later row b."
-- "The one of greater pivot degree is l and the other k; on equal degrees l is b."
pub record Chosen (pivots : List Pivot) (l k : ℕ) : Type 0 where
  pub a : ℕ
  pub b : ℕ
  pub ordered : a < b
  pub fits : b < length pivots
  pub meets : Meets pivots a b
  pub lowest_a : (i j : ℕ) → i < a → i < j → j < length pivots → ¬ (Meets pivots i j)
  pub lowest_b : (j : ℕ) → a < j → j < b → ¬ (Meets pivots a j)
  pub turned : ((degree_at pivots b < degree_at pivots a) × (l ≡ a) × (k ≡ b)) ⊎ ((degree_at pivots a ≤ degree_at pivots b) × (l ≡ b) × (k ≡ a))

abbrev pub IsNext : List Pivot → Option Pair → Type 0
IsNext pivots None = (i j : ℕ) → i < j → j < length pivots → ¬ (Meets pivots i j)
IsNext pivots (Some pair) = Chosen pivots pair.l pair.k

-- the same by the values of the rows
abbrev pub IsNextOf : ℕ → ℕ → (ℕ → ℕ) → Option Pair → Type 0
IsNextOf n m v None = Reduction.NoPair n m v
IsNextOf n m v (Some pair) = (p : Reduction.Pair n m v) × (Reduction.target m v p.a p.b ≡ (pair.l, pair.k))
