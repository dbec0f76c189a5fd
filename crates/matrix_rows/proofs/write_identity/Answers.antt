use native.Mathlib.Omega.{arith}
use Rattle.matrix_rows.proofs.Ones.{cleared, turn}
use Rattle.matrix_rows.proofs.write_identity.Goals as goal

pub loop-i-init : goal.loop-i-init
loop-i-init c = cleared _ _ _ _ c.requires.size c.clear.ensures

pub loop-i-preserved : goal.loop-i-preserved
loop-i-preserved c = turn c.requires.some c.loop-i.invariant c.loop-i-test.true (omega arith) c.from-one.ensures
