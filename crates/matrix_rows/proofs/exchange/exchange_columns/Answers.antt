use Rattle.matrix_rows.proofs.Lines.{columns-paired, column-places, exchanged-at}
use Rattle.matrix_rows.proofs.exchange.exchange_columns.Goals as goal

pub exchange_cells-requires : goal.exchange_cells-requires
exchange_cells-requires c = rw (c.of_column.ensures, c.of_column-2.ensures) (columns-paired c.requires)

pub returns : goal.returns
returns c =
    exchanged-at (column-places _ _ _) (column-places _ _ _) _ _ _ _
    (rw (c.of_column.ensures, c.of_column-2.ensures) at c.exchange_cells.ensures)
