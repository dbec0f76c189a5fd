-- The rows before k are cleared.
use Rattle.matrix_popov.specs.second_step.Removing.{Cleared}
use Rattle.matrix_popov.proofs.second_step.remove_all.Given as goal

abbrev pub invariant-loop-k : goal.invariant-loop-k
invariant-loop-k l =
    Cleared l.md.p l.shape.n l.shape.m l.shape.w l.k l.count l.pivots l.initial.r l.initial.u l.initial.v l.r l.u l.v
