use Rattle.std.proofs.Common.{arith}
use Rattle.poly.proofs.arithmetic.Asked.{scaled-coefficients}
use Rattle.poly_vectors.proofs.fill.Goals as goal

pub returns : goal.returns
returns c = rw c.scale.ensures (scaled-coefficients _ _ _ (omega arith))
