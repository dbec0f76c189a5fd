-- What a stage of the determinant has in its buffers, and what its steps ask and leave.
use Rattle.std.specs.Prelude.{List, ℕ, suc, ◌-◌, ◌<◌}
use Rattle.theory_algebra.specs.Prime.{Prime}
use Rattle.theory_algebra.specs.Residue.{Zp}
use Rattle.theory_rings.specs.PrimeField.{zp_field}
use Rattle.theory_lattice.specs.Row.{Row}
use Rattle.theory_determinant.specs.Stage.{Stage}
use Rattle.matrix_promises.specs.Held.{Held}
use Rattle.matrix_promises.specs.Layout.{by_rows}
use Rattle.theory_reduction.specs.Pair.{NoPair}
use Rattle.matrix_pivots.specs.Pivot.{values_of, Pivots}
use Rattle.matrix_pivots.specs.declared.pivot.Pivot.{Pivot}

-- the buffers of the stage of m columns hold a matrix T of m + 1 rows: r its first m columns, and `column` the parted one, in cells of
-- `wide` places. The product so far, f, times the determinant of T is the whole.
pub record RowsHeld (p : ℕ) (P : Prime p) (m w wide budget : ℕ) (whole f : ℕ → Zp p) (r column : List ℕ) : Type 0 where
  pub T : ℕ → Row (Zp p)
  pub matrix : Held (by_rows (suc m) m w) p r T
  pub parted : Held (by_rows (suc m) 1 wide) p column (λ s _. T s m)
  pub stage : Stage (zp_field p P) w (wide - 1) whole budget m T f

-- such buffers, of at least one column beside the parted one
pub record ReduceAsked (p m w wide budget : ℕ) (r column : List ℕ) : Type 0 where
  pub prime : Prime p
  pub columns : 0 < m
  pub whole : ℕ → Zp p
  pub f : ℕ → Zp p
  pub held : RowsHeld p prime m w wide budget whole f r column

-- no step applies to the rows any more, whose pivots these are: whatever the buffers held of a stage, they hold of the same stage
pub record ColumnsReduced (p m w wide budget : ℕ) (r column r' column' : List ℕ) (pivots : List Pivot) : Type 0 where
  pub pivots_are : Pivots (suc m) m (values_of m w r') pivots
  pub none : NoPair (suc m) m (values_of m w r')
  pub by : (P : Prime p) (whole f : ℕ → Zp p) → RowsHeld p P m w wide budget whole f r column
      → RowsHeld p P m w wide budget whole f r' column'
