-- Prime numbers.
use Rattle.std.specs.Prelude.{◌≡◌, ℕ, ◌%◌, ◌≤◌, ◌<◌}

-- p is at least 2, and no number from 2 to p - 1 divides it
pub record Prime (p : ℕ) : Type 0 where
  pub two : 2 ≤ p
  pub only : (d : ℕ) → 2 ≤ d → d < p → p % d ≡ 0 → ⊥
