-- What was read so far stands in the room, and the numbers that are left are read from what is left of the text.
use Rattle.printer_reading.proofs.Filling.{Filling}
use Rattle.printer_reading.proofs.read_numbers.Given as goal

abbrev pub invariant-loop-k : goal.invariant-loop-k
invariant-loop-k l = Filling l.s l.count l.k l.rest l.room
