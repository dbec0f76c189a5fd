use native.Mathlib.Omega.{arith}
use Rattle.poly.proofs.Ending.{ends-part}
use Rattle.poly.proofs.polynomial.skip.Goals as goal

pub loop-n-preserved : goal.loop-n-preserved
loop-n-preserved c = ends-part _ _ _ c.loop-n.invariant (omega arith) (c.all_zero.ensures.0 c.if-all_zero.true)
