use Rattle.matrix_buffers.specs.Scaled.{CellsScaled}
use Rattle.matrix_rows.specs.Cells.{place}
use Rattle.matrix_rows.proofs.scale.scale_cells.Given as goal

-- The first i cells are multiplied, and no other place has changed.
abbrev pub invariant-loop-i : goal.invariant-loop-i
invariant-loop-i l = CellsScaled l.md.p l.c.0 l.cells.w l.i (place l.cells) l.initial.buf l.buf
