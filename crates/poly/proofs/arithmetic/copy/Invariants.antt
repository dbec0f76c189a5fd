use lib.ListN.{get_or}
use Rattle.theory_lists.proofs.Change.{Changing}
use Rattle.poly.proofs.arithmetic.copy.Given as goal

-- The places before i are copied, and those from i on are as they were.
abbrev pub invariant-loop-i : goal.invariant-loop-i
invariant-loop-i l = Changing (λ j x. get_or l.from j 0) l.initial.to l.to l.i
