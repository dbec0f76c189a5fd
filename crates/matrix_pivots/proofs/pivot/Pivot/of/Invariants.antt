-- From degree t on the row has no coefficient. The degree t falls.
use mathlib.Core.Path.{◌≡◌}
use Prim.Native.Nat.{ℕ, ◌+◌, ◌*◌, ◌≤◌, ◌<◌}
use lib.ListN.{get_or}
use Rattle.matrix_pivots.proofs.pivot.Pivot.of.Given as goal

abbrev pub invariant-loop-t : goal.invariant-loop-t
invariant-loop-t l =
    (l.t ≤ l.shape.w) × ((c s : ℕ) → c < l.shape.m → l.t ≤ s → s < l.shape.w → get_or l.row (c * l.shape.w + s) 0 ≡ 0)

abbrev pub decreases-loop-t : goal.decreases-loop-t
decreases-loop-t l = l.t
