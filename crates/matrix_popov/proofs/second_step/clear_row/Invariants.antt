-- The rows before k are cleared, and some steps on row k are made. What is left to remove falls.
use Rattle.matrix_popov.proofs.second_step.Excesses.{left_of}
use Rattle.matrix_popov.proofs.second_step.Clearing.{Clearing}
use Rattle.matrix_popov.proofs.second_step.clear_row.Given as goal

abbrev pub invariant-loop-x : goal.invariant-loop-x
invariant-loop-x l =
    Clearing l.md.p l.shape.n l.shape.m l.shape.w l.k l.count l.pivots l.initial.r l.initial.u l.initial.v l.r l.u l.v

abbrev pub decreases-loop-x : goal.decreases-loop-x
decreases-loop-x l = left_of l.shape.n l.shape.m l.shape.w l.r l.pivots
