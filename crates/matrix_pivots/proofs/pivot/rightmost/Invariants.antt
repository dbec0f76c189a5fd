-- The columns from c on are zero, and at is the place of column c. c falls.
use mathlib.Core.Path.{◌≡◌}
use Prim.Native.Nat.{◌+◌, ◌*◌, ◌≤◌}
use Rattle.theory_lists.specs.Last.{last_nonzero}
use Rattle.matrix_pivots.proofs.Search.{line}
use Rattle.matrix_pivots.proofs.pivot.rightmost.Given as goal

abbrev pub invariant-loop-c : goal.invariant-loop-c
invariant-loop-c l =
    (l.c ≤ l.shape.m)
    × (l.at ≡ l.c * l.shape.w + l.t)
    × (last_nonzero l.shape.m (line l.row l.shape.w l.t) ≡ last_nonzero l.c (line l.row l.shape.w l.t))

abbrev pub decreases-loop-c : goal.decreases-loop-c
decreases-loop-c l = l.c
