use Rattle.matrix_rows.proofs.Lines.{rows-paired, row-places, exchanged-at}
use Rattle.matrix_rows.proofs.exchange.exchange_rows.Goals as goal

pub exchange_cells-requires : goal.exchange_cells-requires
exchange_cells-requires c = rw (c.of_row.ensures, c.of_row-2.ensures) (rows-paired c.requires)

pub returns : goal.returns
returns c =
    exchanged-at (row-places _ _ _) (row-places _ _ _) _ _ _ _
    (rw (c.of_row.ensures, c.of_row-2.ensures) at c.exchange_cells.ensures)
