use mathlib.Core.Path.{◌≡◌}
use native.Mathlib.Omega.{arith}
use Rattle.matrix_rows.proofs.Terms.{term-turn, terms-end}
use Rattle.matrix_rows.proofs.add_cell.Goals as goal

pub loop-i-preserved : goal.loop-i-preserved
loop-i-preserved c =
    term-turn c.requires c.used-n.ensures.0 c.loop-i.invariant c.loop-i-test.true c.from-y.ensures c.add_at.ensures

pub returns : goal.returns
returns c =
    let all : c.loop-i.i ≡ c.used-n.result = omega arith in terms-end c.requires c.used-n.ensures.0 (rw all at c.loop-i.invariant)
