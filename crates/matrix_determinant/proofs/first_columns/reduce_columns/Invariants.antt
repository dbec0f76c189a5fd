-- The pivots are those of the rows, and of whatever stage the buffers were, they still are. The values of the rows fall together.
use Prim.Native.Nat.{suc}
use Rattle.theory_lists.specs.Total.{total}
use Rattle.matrix_pivots.specs.Pivot.{values_of}
use Rattle.matrix_determinant.proofs.FirstColumns.{Going}
use Rattle.matrix_determinant.proofs.first_columns.reduce_columns.Given as goal

abbrev pub invariant-loop-step : goal.invariant-loop-step
invariant-loop-step l = Going l.md.p l.fn.stage.m l.fn.stage.w l.fn.stage.wide l.budget l.initial.r l.initial.column l.r l.column l.pivots

abbrev pub decreases-loop-step : goal.decreases-loop-step
decreases-loop-step l = total (suc l.fn.stage.m) (values_of l.fn.stage.m l.fn.stage.w l.r)
