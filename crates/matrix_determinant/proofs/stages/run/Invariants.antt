-- The buffers hold the next stage, of m - 1 columns, in their front, whatever whole they had at the start.
use Rattle.matrix_determinant.proofs.Fronts.{Staging}
use Rattle.matrix_determinant.proofs.stages.run.Given as goal

abbrev pub invariant-loop-m : goal.invariant-loop-m
invariant-loop-m l =
    Staging l.md.p l.first.m l.first.w l.first.wide l.initial.r l.initial.column l.initial.product l.r l.column l.product l.m l.budget
