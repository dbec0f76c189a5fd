use Rattle.std.proofs.Common.{arith, w8}
use Rattle.std.proofs.lemmas.Nat.Bits.{bit_at_set_same, bit_at_set_other}
use Rattle.theory_algebra.proofs.Flag.{denied}
use Rattle.matrix_pivots.proofs.Bits.{some-column, entered}
use Rattle.matrix_pivots.proofs.columns.Columns.with.Goals as goal

pub returns : goal.returns
returns c =
    let some = some-column (denied c.is_zero_row.ensures c.if-is_zero_row.false) in
    entered some c.column.ensures (bit_at_set_same w8 _ _ (omega arith)) (bit_at_set_other w8 _ _ (omega arith))
