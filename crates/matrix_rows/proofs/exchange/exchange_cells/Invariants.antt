use Rattle.matrix_buffers.specs.Exchanged.{CellsExchanged}
use Rattle.matrix_rows.specs.Cells.{place}
use Rattle.matrix_rows.proofs.exchange.exchange_cells.Given as goal

-- The first i pairs of cells are exchanged, and no other place has changed.
abbrev pub invariant-loop-i : goal.invariant-loop-i
invariant-loop-i l = CellsExchanged l.one.w l.i (place l.one) (place l.other) l.initial.buf l.buf
