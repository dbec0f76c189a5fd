use mathlib.Core.Path.{◌∙◌}
use Rattle.matrix_determinant.proofs.Whole.{stages-asked, is-determinant}
use Rattle.matrix_determinant.proofs.determinant.Goals as goal

pub run-requires : goal.run-requires
run-requires c =
    stages-asked c.requires c.lay.ensures (c.lay.auto.r ∙ c.zeros-columns.ensures.0) (c.lay.auto.column ∙ c.zeros-column.ensures.0)

pub returns : goal.returns
returns c = is-determinant c.requires c.lay.ensures c.run.ensures
