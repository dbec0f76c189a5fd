use Rattle.poly.specs.arithmetic.Operations.{product_of}
use Rattle.poly_bench.proofs.poly_bench_product.Given as goal

-- Each round writes the product.
abbrev pub ghost-repeat : goal.ghost-repeat
ghost-repeat a = product_of a.step.2.now.p a.step.0.now a.step.1.now
