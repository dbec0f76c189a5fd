use Prim.Native.Nat.{◌*◌, ◌%◌}
use Rattle.theory_lists.proofs.Change.{Changing}
use Rattle.poly.proofs.arithmetic.scale.Given as goal

-- The places before i have their products, and those from i on are as they were.
abbrev pub invariant-loop-i : goal.invariant-loop-i
invariant-loop-i l = Changing (λ j x. l.c.0 * x % l.md.p) l.initial.a l.a l.i
