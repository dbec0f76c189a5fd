-- No row before a has a partner.
use Prim.Native.Nat.{ℕ, ◌<◌}
use lib.ListN.{length}
use Rattle.matrix_pivots.specs.Columns.{Meets}
use Rattle.matrix_pivots.proofs.next_pair.choose.Given as goal

abbrev pub invariant-loop-a : goal.invariant-loop-a
invariant-loop-a l = (i : ℕ) → i < l.a → (j : ℕ) → i < j → j < length l.pivots → ¬ (Meets l.pivots i j)
