-- The loop that looks for a second row on a column in use.
use mathlib.Core.Path.{◌≡◌}
use mathlib.Core.List.{List}
use Prim.Native.Nat.{ℕ, ◌<◌}
use Rattle.matrix_pivots.specs.declared.pivot.Pivot.{Pivot}
use Rattle.matrix_pivots.specs.Pivot.{index_at}
use Rattle.matrix_pivots.specs.Columns.{In, Meets}

-- the set a has the columns of the rows before i, of which no two meet
pub record Collecting (pivots : List Pivot) (a i : ℕ) : Type 0 where
  pub marked : (j : ℕ) → j < i → 0 < index_at pivots j → In a (index_at pivots j)
  pub only : (x : ℕ) → In a x → (j : ℕ) × (j < i) × (index_at pivots j ≡ x)
  pub apart : (k : ℕ) → k < i → (j : ℕ) → j < k → ¬ (Meets pivots j k)
