-- The steps that lead on from what r, u and v hold lead on from the beginning, the pivots are those of the rows, and `spent` is what their
-- degrees have lost. The sum of the values falls.
use Rattle.theory_lists.specs.Total.{total}
use Rattle.matrix_pivots.specs.Pivot.{values_of}
use Rattle.matrix_reduction.proofs.Transforms.{Running}
use Rattle.matrix_reduction.proofs.run.Given as goal

abbrev pub invariant-loop-step : goal.invariant-loop-step
invariant-loop-step l = Running l.fn.md.p l.fn.shape.n l.fn.shape.m l.fn.shape.w l.initial.r l.initial.u l.initial.v l.r l.u l.v l.pivots l.least l.count l.spent

abbrev pub decreases-loop-step : goal.decreases-loop-step
decreases-loop-step l = total l.fn.shape.n (values_of l.fn.shape.m l.fn.shape.w l.r)
