use native.Mathlib.Omega.{arith}
use Rattle.poly.proofs.arithmetic.Places.{summing_start, summing-turn, summing-end}
use Rattle.poly.proofs.arithmetic.sum_at.Goals as goal

pub loop-i-init : goal.loop-i-init
loop-i-init c = summing_start _ _ _ _ c.saturating_sub-start.ensures

pub loop-i-preserved : goal.loop-i-preserved
loop-i-preserved c = summing-turn _ _ _ _ _ _ c.loop-i.invariant (omega arith) c.whole_product-sum.ensures

pub returns : goal.returns
returns c = summing-end _ _ _ _ _ c.loop-i.invariant (omega arith)
