-- What a whole stage asks of its buffers, and what it leaves to the next.
use Rattle.std.specs.Prelude.{◌≡◌, List, ℕ, ◌-◌, ◌<◌, length, take}
use Rattle.theory_algebra.specs.Prime.{Prime}
use Rattle.theory_algebra.specs.Residue.{Zp}
use Rattle.poly.specs.Holds.{Holds}
use Rattle.matrix_determinant.specs.FirstColumns.{RowsHeld}
use Rattle.matrix_determinant.specs.Sizes.{places, cells}

-- the buffers of the stage of m columns, of which `product` has the product so far, in as many places as a cell of the parted column
pub record StageHeld (p : ℕ) (P : Prime p) (m w wide budget : ℕ) (whole : ℕ → Zp p) (r column product : List ℕ) : Type 0 where
  pub f : ℕ → Zp p
  pub rows : RowsHeld p P m w wide budget whole f r column
  pub size : length product ≡ wide
  pub so_far : Holds p product f

-- a stage of m columns in the front of buffers that have room for more
pub record FrontHeld (p : ℕ) (P : Prime p) (m w wide budget : ℕ) (whole : ℕ → Zp p) (r column product : List ℕ) : Type 0 where
  pub front : StageHeld p P m w wide budget whole (take (places m w) r) (take (cells m wide) column) product

-- the buffers of a stage, of at least one column beside the parted one
pub record StageAsked (p m w wide budget : ℕ) (r column product : List ℕ) : Type 0 where
  pub prime : Prime p
  pub columns : 0 < m
  pub whole : ℕ → Zp p
  pub held : StageHeld p prime m w wide budget whole r column product

-- whatever stage the buffers were of, they are of the next one, with one row and one column less: its columns stand in front of r, and
-- the first cells of `column` are the one that is parted from them
pub record Staged (p m w wide budget budget' : ℕ) (r column product r' column' product' : List ℕ) : Type 0 where
  pub by : (P : Prime p) (whole : ℕ → Zp p) → StageHeld p P m w wide budget whole r column product
      → FrontHeld p P (m - 1) w wide budget' whole r' column' product'
