-- The first stage, as it is laid out in its buffers.
use Rattle.std.specs.Prelude.{◌≡◌, List, ℕ, suc, ◌*◌, ◌≤◌, length, take}
use Rattle.matrix_buffers.specs.Diagonal.{Diagonal}
use Rattle.matrix_determinant.specs.LastColumn.{Parted}
use Rattle.matrix_determinant.specs.Sizes.{places, cells}

-- a square matrix, room for all its columns but the last, for the last in wide cells, and for a wide cell
pub record LayAsked (m w wide : ℕ) (a r column product : List ℕ) : Type 0 where
  pub size : length a ≡ suc m * (suc m * w)
  pub r_room : places m w ≤ length r
  pub column_room : cells m wide ≤ length column
  pub product_size : length product ≡ wide

-- the last column is parted from the others, no row being taken out: there is no row m + 1. The product of no factors is 1.
pub record Laid (m w wide : ℕ) (a r' column' product' : List ℕ) : Type 0 where
  pub parted : Parted m w wide (suc m) a (take (places m w) r') (take (cells m wide) column')
  pub one : Diagonal 1 wide product'
