-- The lines so far stand in the room, and those that are left are read from what is left of the text.
use Prim.Native.Nat.{◌+◌, ◌*◌}
use Rattle.printer_format.specs.Line.{bytes, cell_key, read_line}
use Rattle.printer_reading.proofs.Storing.{Storing}
use Rattle.printer_reading.proofs.read_cells.Given as goal

abbrev pub invariant-loop-c : goal.invariant-loop-c
invariant-loop-c l = Storing (λ c. read_line (cell_key (bytes "a11=") l.m c) (l.d + 1)) l.s (l.n * l.m) (l.d + 1) l.c l.rest l.room
