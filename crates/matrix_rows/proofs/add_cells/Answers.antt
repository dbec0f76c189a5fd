use mathlib.Core.Path.{◌≡◌}
use native.Mathlib.Omega.{arith}
use Rattle.matrix_rows.proofs.Turns.{add-asked, add-turn}
use Rattle.matrix_rows.proofs.add_cells.Goals as goal

pub add_cell-requires : goal.add_cell-requires
add_cell-requires c = rw (c.start.ensures, c.start-in-loop-i.ensures) (add-asked c.requires c.loop-i.invariant c.loop-i-test.true)

pub loop-i-preserved : goal.loop-i-preserved
loop-i-preserved c =
    add-turn c.requires c.loop-i.invariant c.loop-i-test.true (rw (c.start.ensures, c.start-in-loop-i.ensures) at c.add_cell.ensures)

pub returns : goal.returns
returns c = let all : c.loop-i.i ≡ c.args.to.count = omega arith in rw all at c.loop-i.invariant
