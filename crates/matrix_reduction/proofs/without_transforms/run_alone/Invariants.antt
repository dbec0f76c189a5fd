-- The steps that lead on from what r holds lead on from the beginning, and the pivots are those of its rows. The sum of the values falls.
use Rattle.theory_lists.specs.Total.{total}
use Rattle.matrix_pivots.specs.Pivot.{values_of}
use Rattle.matrix_reduction.proofs.Loop.{Going}
use Rattle.matrix_reduction.proofs.Alone.{NothingElse}
use Rattle.matrix_reduction.proofs.without_transforms.run_alone.Given as goal

abbrev pub invariant-loop-step : goal.invariant-loop-step
invariant-loop-step l = Going l.fn.md.p l.fn.shape.n l.fn.shape.m l.fn.shape.w NothingElse l.initial.r l.r l.pivots l.count

abbrev pub decreases-loop-step : goal.decreases-loop-step
decreases-loop-step l = total l.fn.shape.n (values_of l.fn.shape.m l.fn.shape.w l.r)
