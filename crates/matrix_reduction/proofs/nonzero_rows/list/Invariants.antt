-- The rows before i are listed, and those from i on are left.
use Rattle.std.proofs.Common.{◌≡◌, ◌*◌}
use Rattle.matrix_reduction.proofs.NonzeroRows.{Listing}
use Rattle.matrix_reduction.proofs.nonzero_rows.list.Given as goal

abbrev pub invariant-loop-i : goal.invariant-loop-i
invariant-loop-i l =
    (goal.iterator-loop-i).can_next l.i-iterator × (goal.iterator-loop-i).is_finite l.i-iterator
    × (l.i-iterator.iter.size ≡ l.fn.shape.m * l.fn.shape.w)
    × Listing l.fn.shape.n l.fn.shape.m l.fn.shape.w l.r l.rows l.i-iterator.count l.i-iterator.iter.rest.now
