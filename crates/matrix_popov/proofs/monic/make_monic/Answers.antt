use native.Mathlib.Omega.{arith}
use mathlib.Core.Path.{◌≡◌}
use Rattle.matrix_popov.proofs.monic.Dividing.{dividing-all, row-asked, dividing-on}
use Rattle.matrix_popov.proofs.monic.make_monic.Goals as goal

pub divide_row-requires : goal.divide_row-requires
divide_row-requires c = row-asked c.requires.asked c.loop-i.invariant (omega (arith, c.requires.pivots_size))

pub loop-i-preserved : goal.loop-i-preserved
loop-i-preserved c =
    dividing-on c.requires.asked c.loop-i.invariant (omega (arith, c.requires.pivots_size)) c.divide_row.ensures

pub returns : goal.returns
returns c =
    let all : c.loop-i.i ≡ c.args.shape.n = omega (arith, c.loop-i.invariant.most) in
    dividing-all c.requires.asked (rw all at c.loop-i.invariant)
