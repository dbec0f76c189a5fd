use Rattle.std.proofs.Common.{sym, length-take-le}
use Rattle.std.specs.Prelude.{MatchResult}
use Rattle.matrix_buffers.proofs.Bounds.{matrix-few, square-few, transform-few}
use Rattle.matrix_refusals.proofs.checks.Verdicts.{in_bounds}
use Rattle.printer_library.specs.Asked.{ResultAsked}
use Rattle.printer_library.proofs.Answers.{reduced-to}
use Rattle.printer_library.proofs.answer_matrix.Goals as goal
use Rattle.printer_library.proofs.answer_matrix.Goals.{After-reduce}

-- the reduction is not refused
outcome : (c : After-reduce) → MatchResult c.reduce.result
    (λ s. ResultAsked c.args.numbers.p c.args.numbers.n c.args.numbers.m c.args.numbers.d c.args.a.now c.reduce.new.r s.rank s.count) (λ _. ⊥)
outcome c =
    let bounds = in_bounds c.requires.numbers in
    reduced-to c.requires (length-take-le _ _ (matrix-few bounds)) (length-take-le _ _ (transform-few bounds))
    (length-take-le _ _ (square-few bounds)) c.reduce.result c.reduce.ensures

pub slice_bounds-u_room-end : goal.slice_bounds-u_room-end
slice_bounds-u_room-end c = transform-few (in_bounds c.requires.numbers)

pub slice_bounds-u-end : goal.slice_bounds-u-end
slice_bounds-u-end c = sym (length-take-le _ _ (transform-few (in_bounds c.requires.numbers)))

pub unreachable-requires : goal.unreachable-requires
unreachable-requires c = rw c.in_default.is at (outcome (goal.at.unreachable-requires c).After-reduce)

pub answer_reduced-requires : goal.answer_reduced-requires
answer_reduced-requires c = rw c.in-Ok.is at (outcome (goal.at.answer_reduced-requires c).After-reduce)
