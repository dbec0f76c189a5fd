-- The set has the columns of the rows that were looked at, and no two of these meet.
use Rattle.matrix_pivots.proofs.Choice.{Collecting}
use Rattle.matrix_pivots.proofs.columns.repeats_column.Given as goal

abbrev pub invariant-loop-pivot : goal.invariant-loop-pivot
invariant-loop-pivot l = Collecting l.pivots l.used.0 l.pivot-index
