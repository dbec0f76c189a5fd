-- What the key of a cell asks.
use Rattle.std.specs.Prelude.{ℕ, ◌*◌, ◌≤◌, ◌<◌}

-- cell c is one of a matrix of at most 8 rows and of m columns, at most 8
pub record CellAsked (m c : ℕ) : Type 0 where
  pub some : 1 ≤ m
  pub columns : m ≤ 8
  pub rows : c < 8 * m
