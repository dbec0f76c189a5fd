-- What is left of the lines is what the cells that are left make.
use Prim.Native.Nat.{◌+◌, ◌*◌, ◌-◌}
use lib.ListN.{drop}
use Rattle.printer_format.specs.Line.{bytes, cell_key, lines}
use Rattle.printer_format.specs.Answer.{result_text}
use Rattle.printer_writing.proofs.Writing.{Begun}
use Rattle.printer_writing.proofs.put_result.Given as goal

abbrev pub invariant-loop-c : goal.invariant-loop-c
invariant-loop-c l =
    Begun l.initial.out l.at (result_text l.n l.m l.d l.r)
    (lines (cell_key (bytes "r11=") l.m) (l.d + 1) (l.n * l.m - l.c) l.c (drop (l.c * (l.d + 1)) l.r)) l.out l.i
