use mathlib.Core.Path.{◌≡◌}
use native.Mathlib.Omega.{arith}
use Rattle.matrix_rows.proofs.exchange.Places.{stored, place-turn}
use Rattle.matrix_rows.proofs.exchange.exchange_cell.Goals as goal

pub loop-t-preserved : goal.loop-t-preserved
loop-t-preserved c =
    let now = c.loop-t.invariant in
    let lt = c.loop-t-test.true in
    place-turn c.requires now lt (stored _ (c.requires.apart c.loop-t.t c.loop-t.t lt lt)
    (omega (arith, lt, now.size, c.requires.one_fits)) (omega (arith, lt, now.size, c.requires.other_fits)))

pub returns : goal.returns
returns c = let all : c.loop-t.t ≡ c.args.w = omega arith in rw all at c.loop-t.invariant
