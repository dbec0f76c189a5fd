use native.Mathlib.Omega.{arith}
use mathlib.Core.Path.{sym}
use Rattle.theory_lists.proofs.Skip.{skip-low, skip-high}
use Rattle.matrix_determinant.proofs.last_column.row_left.Goals as goal

pub returns-then-s-k : goal.returns-then-s-k
returns-then-s-k c = sym (skip-low _ _ c.if-s-k.true)

pub returns-else-s-k : goal.returns-else-s-k
returns-else-s-k c = omega (arith, skip-high c.args.k c.args.s (omega arith))
