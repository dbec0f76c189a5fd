use Rattle.matrix_determinant.proofs.FirstStage.{input-asked, laid}
use Rattle.matrix_determinant.proofs.last_column.lay.Goals as goal

pub part-requires : goal.part-requires
part-requires c = rw (c.rows.ensures, c.places-size.ensures, c.cells-cells.ensures) (input-asked c.requires)

pub returns : goal.returns
returns c = laid c.requires _ _ (rw c.rows.ensures at c.part.ensures) c.write_identity.ensures
