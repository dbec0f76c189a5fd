-- No row between a and b meets a.
use Prim.Native.Nat.{ℕ, ◌<◌}
use Rattle.matrix_pivots.specs.Columns.{Meets}
use Rattle.matrix_pivots.proofs.next_pair.partner.Given as goal

abbrev pub invariant-loop-b : goal.invariant-loop-b
invariant-loop-b l = (j : ℕ) → j < l.b → l.a < j → ¬ (Meets l.pivots l.a j)
