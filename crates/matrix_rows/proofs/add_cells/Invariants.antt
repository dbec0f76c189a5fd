use Rattle.matrix_buffers.specs.Added.{CellsAdded}
use Rattle.matrix_rows.specs.Cells.{place}
use Rattle.matrix_rows.proofs.add_cells.Given as goal

-- The first i cells are added to, and no other place has changed.
abbrev pub invariant-loop-i : goal.invariant-loop-i
invariant-loop-i l = CellsAdded l.md.p l.c.0 l.e l.to.w l.i (place l.to) (place l.from) l.initial.buf l.initial.buf l.buf
