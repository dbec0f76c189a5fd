use Rattle.theory_lists.proofs.Change.{Changing}
use Rattle.poly.specs.arithmetic.Operations.{plus_times}
use Rattle.poly.proofs.arithmetic.add_scaled.Given as goal

-- The places before i have their sums, and those from i on are as they were.
abbrev pub invariant-loop-i : goal.invariant-loop-i
invariant-loop-i l = Changing (plus_times l.md.p l.c.0 l.b) l.initial.a l.a l.i
