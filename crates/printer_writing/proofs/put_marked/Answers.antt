use Rattle.printer_writing.proofs.Writing.{wrote_then, wrote_as}
use Rattle.printer_writing.proofs.put_marked.Goals as goal

pub returns : goal.returns
returns c =
    wrote_then c.put_number-i.ensures (wrote_as c.mark_of.ensures c.put_bytes.ensures)
