use Rattle.poly.specs.arithmetic.Operations.{plus_multiple}
use Rattle.poly_bench.proofs.add_reduced.Given as goal

-- Each round adds the multiple.
abbrev pub ghost-repeat : goal.ghost-repeat
ghost-repeat a = plus_multiple a.step.3.now.p a.step.1.now.0 a.step.2.now a.step.0.now
