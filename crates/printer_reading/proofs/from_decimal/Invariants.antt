use Rattle.printer_reading.proofs.Digits.{Valuing}
use Rattle.printer_reading.proofs.from_decimal.Given as goal

abbrev pub invariant-loop-b : goal.invariant-loop-b
invariant-loop-b l = Valuing l.w l.v l.b-index
