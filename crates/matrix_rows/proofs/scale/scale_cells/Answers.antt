use mathlib.Core.Path.{◌≡◌}
use native.Mathlib.Omega.{arith}
use Rattle.matrix_rows.proofs.Turns.{scale-turn}
use Rattle.matrix_rows.proofs.scale.scale_cells.Goals as goal

pub loop-i-preserved : goal.loop-i-preserved
loop-i-preserved c = scale-turn _ _ c.requires c.loop-i.invariant (rw c.start.ensures at c.scale_cell.ensures)

pub returns : goal.returns
returns c = let all : c.loop-i.i ≡ c.args.cells.count = omega arith in rw all at c.loop-i.invariant
