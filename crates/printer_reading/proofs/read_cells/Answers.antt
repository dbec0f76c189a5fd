use Rattle.std.proofs.Common.{arith}
use Rattle.printer_reading.proofs.Storing.{storing_end, storing_part, storing_wrong, storing_turn}
use Rattle.printer_reading.proofs.read_cells.Goals as goal

pub returns-in_default-clause-lines : goal.returns-in_default-clause-lines
returns-in_default-clause-lines c =
    let size = storing_part _ _ _ _ _ _ _ c.loop-c.invariant c.loop-c-test.true in
    storing_wrong _ _ _ _ _ _ _ c.loop-c.invariant c.loop-c-test.true (rw (c.key_of_cell-key.ensures, size) at c.in_default.ensures)

pub loop-c-preserved : goal.loop-c-preserved
loop-c-preserved c =
    let size = storing_part _ _ _ _ _ _ _ c.loop-c.invariant c.loop-c-test.true in
    storing_turn _ _ _ _ _ _ _ c.loop-c.invariant c.loop-c-test.true _ c.take_line.auto.room _
    (rw (c.key_of_cell-key.ensures, size) at c.in-Some.ensures)

pub returns-clause-lines : goal.returns-clause-lines
returns-clause-lines c = storing_end _ _ _ _ _ _ _ c.loop-c.invariant (omega (arith, c.loop-c-test.false, c.loop-c.auto.c-end))
