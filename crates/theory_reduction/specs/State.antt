-- The state of a matrix.
use Rattle.std.specs.Prelude.{ℕ, ◌+◌, ◌-◌, ◌*◌}
use Rattle.theory_algebra.specs.Field.{Field}
use Rattle.theory_lattice.specs.Row.{Row}
use Rattle.theory_lists.specs.Total.{total}
use Rattle.theory_reduction.specs.Pivot.{value, index, height}

-- "The state of a matrix is the sum of D·m + I over its non-zero rows"; for a zero row 0 is added
abbrev pub state : {F : Type 0} → Field F → ℕ → ℕ → ℕ → (ℕ → Row F) → ℕ
state K n m size M = total n (λ i. (height m (value K m size (M i)) - 1) * m + index m (value K m size (M i)))
