use Rattle.matrix_rows.proofs.Lines.{row-places, scaled-at}
use Rattle.matrix_rows.proofs.scale.scale_row.Goals as goal

pub returns : goal.returns
returns c = scaled-at (row-places _ _ _) _ _ _ _ _ _ (rw c.of_row.ensures at c.scale_cells.ensures)
