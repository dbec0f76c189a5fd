-- The rows before i are divided, and U and V have followed.
use Rattle.matrix_popov.proofs.monic.Dividing.{Dividing}
use Rattle.matrix_popov.proofs.monic.make_monic.Given as goal

abbrev pub invariant-loop-i : goal.invariant-loop-i
invariant-loop-i l =
    Dividing l.md.p l.shape.n l.shape.m l.shape.w l.initial.r l.initial.u l.initial.v l.r l.u l.v l.i
