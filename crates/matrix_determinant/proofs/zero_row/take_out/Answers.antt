use native.Mathlib.Nat.{add-sub_cancel_left}
use Rattle.matrix_determinant.specs.ZeroRow.{Lowest}
use Rattle.matrix_determinant.proofs.ZeroRow.{left-asked, taken_out}
use Rattle.matrix_determinant.proofs.zero_row.take_out.Goals as goal
use Rattle.matrix_determinant.proofs.zero_row.take_out.Goals.{After-unwrap-k}

lowest : (c : After-unwrap-k) → Lowest c.args.pivots.now c.unwrap-k.result
lowest c = rw c.unwrap-k.ensures at c.lowest_zero.ensures

pub multiply-requires : goal.multiply-requires
multiply-requires c =
    rw add-sub_cancel_left (c.requires.row _ (lowest (goal.at.multiply-requires c).After-unwrap-k))

pub part-requires : goal.part-requires
part-requires c =
    let left = c.smaller-left.ensures in
    rw (c.cells-cells.ensures, left.columns, left.places, left.widened)
    (left-asked c.requires (lowest (goal.at.part-requires c).After-unwrap-k))

pub returns : goal.returns
returns c =
    let left = c.smaller-left.ensures in
    taken_out c.requires (lowest (goal.at.returns c).After-unwrap-k) _ (rw (left.columns, left.places, left.widened) at c.part.ensures)
    (rw (c.of.ensures, add-sub_cancel_left) at c.multiply.ensures)
