-- The rows before s that are left are parted.
use Rattle.matrix_determinant.proofs.LastColumn.{Parting}
use Rattle.matrix_determinant.proofs.last_column.part.Given as goal

abbrev pub invariant-loop-s : goal.invariant-loop-s
invariant-loop-s l = Parting l.stage.m l.stage.w l.stage.wide l.k l.r l.initial.next l.initial.column l.next l.column l.s
