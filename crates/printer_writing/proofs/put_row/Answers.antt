use mathlib.Core.Path.{subst}
use Rattle.printer_writing.specs.Wrote.{Room}
use Rattle.printer_writing.proofs.Writing.{begun-start, begun_more, begun-room, begun-end, first-room}
use Rattle.printer_writing.proofs.Turns.{row_next, row-end}
use Rattle.printer_writing.proofs.put_row.Goals as goal

pub loop-k-init : goal.loop-k-init
loop-k-init c = begun-start

pub put_marked-i-requires : goal.put_marked-i-requires
put_marked-i-requires c =
    let room = begun-room c.loop-k.invariant c.requires in
    rw c.from.ensures (first-room _ _ (subst (Room _ _) (row_next _ _ c.loop-k-test.true) room))

pub loop-k-preserved : goal.loop-k-preserved
loop-k-preserved c =
    begun_more c.loop-k.invariant _ (row_next _ _ c.loop-k-test.true) (rw c.from.ensures at c.put_marked-i.ensures)

pub returns : goal.returns
returns c = begun-end c.loop-k.invariant (row-end _ _ c.loop-k-test.false)
