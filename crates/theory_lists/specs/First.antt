-- The first place with a property.
use Rattle.std.specs.Prelude.{ℕ, ◌≤◌, ◌<◌}

-- k is the first of the numbers below n that has the property, or n where none has it
pub record First (n : ℕ) (Has : ℕ → Type 0) (k : ℕ) : Type 0 where
  pub within : k ≤ n
  pub here : k < n → Has k
  pub before : (i : ℕ) → i < k → ¬ (Has i)
