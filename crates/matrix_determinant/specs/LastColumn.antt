-- A row is taken out and a column is parted, on buffers.
use Rattle.std.specs.Prelude.{◌≡◌, List, ℕ, suc, ◌+◌, ◌*◌, ◌≤◌, ◌<◌, length, get_or}
use Rattle.theory_lists.specs.Skip.{skip}
use Rattle.theory_lists.specs.Place.{spot}
use Rattle.matrix_determinant.specs.Sizes.{places}

-- rows of m + 1 cells of w places, of which those that count without row k lie in r, and room for a stage of m columns: for m + 1 of
-- the rows without their last cells, and for these in cells of `wide` places
pub record PartAsked (m w wide k : ℕ) (r next column : List ℕ) : Type 0 where
  pub inside : (s : ℕ) → s < suc m → skip k s * (suc m * w) + suc m * w ≤ length r
  pub next_size : length next ≡ places m w
  pub column_size : length column ≡ suc m * (1 * wide)

-- r "with row k deleted" is parted: `next` has the first m columns of m + 1 rows, and `column` the last one
pub record Parted (m w wide k : ℕ) (r next' column' : List ℕ) : Type 0 where
  pub next_size : length next' ≡ places m w
  pub next_at : (s j t : ℕ) → s < suc m → j < m → t < w → get_or next' (spot m w s j t) 0 ≡ get_or r (spot (suc m) w (skip k s) j t) 0
  pub column_size : length column' ≡ suc m * (1 * wide)
  pub column_at : (s t : ℕ) → s < suc m → t < w → get_or column' (spot 1 wide s 0 t) 0 ≡ get_or r (spot (suc m) w (skip k s) m t) 0
  pub column_zero : (s t : ℕ) → s < suc m → w ≤ t → t < wide → get_or column' (spot 1 wide s 0 t) 0 ≡ 0
