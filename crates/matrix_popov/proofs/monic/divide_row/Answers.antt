use Rattle.matrix_popov.proofs.monic.OneRow.{zero_row, one-row}
use Rattle.matrix_popov.proofs.monic.divide_row.Goals as goal

pub returns-then-is_zero_row : goal.returns-then-is_zero_row
returns-then-is_zero_row c = zero_row c.requires (c.is_zero_row.ensures.0 c.if-is_zero_row.true)

pub scale_row-requires-2 : goal.scale_row-requires-2
scale_row-requires-2 c = rw c.of_u.ensures (one-row c.requires.holding.U.size c.requires.fits)
