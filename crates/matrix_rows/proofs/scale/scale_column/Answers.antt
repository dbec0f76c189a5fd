use Rattle.matrix_rows.proofs.Lines.{column-in, column-places, scaled-at}
use Rattle.matrix_rows.proofs.scale.scale_column.Goals as goal

pub scale_cells-requires : goal.scale_cells-requires
scale_cells-requires c = rw c.of_column.ensures (column-in c.requires)

pub returns : goal.returns
returns c = scaled-at (column-places _ _ _) _ _ _ _ _ _ (rw c.of_column.ensures at c.scale_cells.ensures)
