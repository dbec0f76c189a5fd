-- What is left of the row is what the numbers that are left make.
use lib.ListN.{drop}
use Rattle.printer_format.specs.Line.{row}
use Rattle.printer_writing.proofs.Writing.{Begun}
use Rattle.printer_writing.proofs.put_row.Given as goal

abbrev pub invariant-loop-k : goal.invariant-loop-k
invariant-loop-k l = Begun l.initial.out l.at (row l.numbers) (row (drop l.k l.numbers)) l.out l.i
