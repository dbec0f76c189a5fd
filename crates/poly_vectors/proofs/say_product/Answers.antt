use Rattle.std.proofs.Common.{arith}
use Rattle.poly.proofs.arithmetic.Asked.{product-room}
use Rattle.poly_vectors.proofs.say_product.Goals as goal

pub product-requires : goal.product-requires
product-requires g c =
    product-room _ _ _ _ (omega (arith, c.fill.auto.a, c.fill-2.auto.a)) (omega (arith, c.fill.auto.a))
