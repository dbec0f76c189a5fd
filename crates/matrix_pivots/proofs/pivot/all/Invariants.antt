-- The pivots before row i are found, and from i on stand those of zero rows.
use Rattle.matrix_pivots.specs.Pivot.{values_of, AllPivots}
use Rattle.matrix_pivots.proofs.pivot.all.Given as goal

abbrev pub invariant-loop-i : goal.invariant-loop-i
invariant-loop-i l = AllPivots l.i l.shape.m (values_of l.shape.m l.shape.w l.r) l.pivots
