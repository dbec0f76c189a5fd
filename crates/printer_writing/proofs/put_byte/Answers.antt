use Rattle.printer_writing.proofs.Writing.{wrote-byte}
use Rattle.printer_writing.proofs.put_byte.Goals as goal

pub returns : goal.returns
returns c = wrote-byte _
