use Rattle.std.proofs.Common.{rules}
use Rattle.std.proofs.lemmas.List.{places}
use Rattle.matrix_determinant.proofs.last_column.fill.Goals as goal

pub returns : goal.returns
returns c = λ t. search (rules, places)
