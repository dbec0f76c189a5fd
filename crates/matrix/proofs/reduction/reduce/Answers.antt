use mathlib.Core.Path.{refl}
use Rattle.matrix_promises.proofs.Tables.{in_order}
use Rattle.matrix_refusals.proofs.Answering.{answer-done}
use Rattle.matrix_reduction.proofs.NonzeroRows.{listed}
use Rattle.matrix.proofs.reduction.reduce.Goals as goal

-- the rows of R that are not zero are the list that the reduction promises
pub returns : goal.returns
returns c =
    let order = in_order refl c.in_ok-check_reduction.ensures in
    let reduced = rw (c.of.ensures, c.shape-shape.ensures) at c.work-reached.ensures in
    let rows = rw c.shape-shape.ensures at c.list.ensures in
    answer-done c.in_ok-check_reduction.ensures (reduced, listed order.numbers.shape.columns reduced rows)
