use Prim.Native.Nat.{◌-◌}
use Rattle.poly.proofs.residues.Trial.{Trying}
use Rattle.poly.proofs.residues.is_prime.Given as goal

-- No number from 2 to d - 1 divides p, and d is 5 past a multiple of 6. The numbers from d to p fall.
abbrev pub invariant-loop-d : goal.invariant-loop-d
invariant-loop-d l = Trying l.p l.d

abbrev pub decreases-loop-d : goal.decreases-loop-d
decreases-loop-d l = l.p - l.d
