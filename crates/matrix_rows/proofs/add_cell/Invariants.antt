use Rattle.matrix_rows.proofs.Terms.{Adding}
use Rattle.matrix_rows.proofs.add_cell.Given as goal

-- The first i terms are added, and no other place has changed.
abbrev pub invariant-loop-i : goal.invariant-loop-i
invariant-loop-i l = Adding l.md.p l.c.0 l.e l.to l.from l.initial.buf l.buf l.i
