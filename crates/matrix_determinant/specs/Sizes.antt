-- The sizes of a stage.
use Rattle.std.specs.Prelude.{ℕ, suc, ◌*◌, ◌≤◌, ◌<◌}

-- at most eight rows, 64 places a cell, and 512 a cell of the parted column, which has no fewer than the others
pub record Sizes (m w wide : ℕ) : Type 0 where
  pub columns_most : m < 8
  pub places : 0 < w
  pub places_most : w ≤ 64
  pub widened : w ≤ wide
  pub wide_most : wide ≤ 512

-- the places of m + 1 rows of m cells, of w places each
abbrev pub places : (m w : ℕ) → ℕ
places m w = suc m * (m * w)

-- and of as many cells of `wide` places
abbrev pub cells : (m wide : ℕ) → ℕ
cells m wide = suc m * wide
