use Rattle.poly.proofs.arithmetic.Places.{Summing}
use Rattle.poly.proofs.arithmetic.sum_at.Given as goal

-- The products before i are summed, and the sum fits.
abbrev pub invariant-loop-i : goal.invariant-loop-i
invariant-loop-i l = Summing l.a l.b l.k l.i l.sum
