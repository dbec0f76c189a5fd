use Rattle.matrix_buffers.specs.Diagonal.{Ones}
use Rattle.matrix_rows.proofs.write_identity.Given as goal

-- The ones of the rows before i are written, and every other place is zero.
abbrev pub invariant-loop-i : goal.invariant-loop-i
invariant-loop-i l = Ones l.n l.w l.i l.u
