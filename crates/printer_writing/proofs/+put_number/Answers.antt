-- The last digit is written after the others, which the call at a tenth of the number writes.
use native.Mathlib.Omega.{arith}
use Rattle.printer_format.proofs.Number.{tenth}
use Rattle.printer_writing.proofs.Digits.{one-room, one-digit, tenth-room, last-room, last-digit}
use Rattle.printer_writing.proofs.+put_number.Goals as goal

pub put_byte-requires : goal.put_byte-requires
put_byte-requires t c = one-room c.args.value c.if-value-lt10.true c.numeral.ensures c.requires

pub returns-then-value-lt10 : goal.returns-then-value-lt10
returns-then-value-lt10 t c = one-digit _ c.if-value-lt10.true c.numeral.ensures c.put_byte.ensures

pub put_number-i-requires : goal.put_number-i-requires
put_number-i-requires t c = (
  omega (arith, tenth c.args.value c.if-value-lt10.false, c.decreases),
  tenth-room c.args.value c.if-value-lt10.false c.requires,
)

pub put_byte-requires-2 : goal.put_byte-requires-2
put_byte-requires-2 t c = last-room c.args.value c.if-value-lt10.false c.put_number-i.ensures c.numeral-2.ensures c.requires

pub returns : goal.returns
returns t c = last-digit _ c.if-value-lt10.false c.put_number-i.ensures c.numeral-2.ensures c.put_byte-2.ensures
