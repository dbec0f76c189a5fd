use contract.BorrowLft.{⊑_meet, ⊑_static}
use borrow.Author.Rules.{rules}
use native.Mathlib.Omega.{arith}
use Rattle.poly.specs.arithmetic.Operations.{ProductAsked}
use Rattle.poly.proofs.arithmetic.Asked.{product-room}
use Rattle.poly_bench.proofs.Rounds.{product-again}
use Rattle.poly_bench.proofs.poly_bench_product.Goals as goal

-- what the step borrows lives as long as the step, and what it asks holds in each round
pub repeat-requires : goal.repeat-requires
repeat-requires c κs within = (
  search (⊑_meet, ⊑_static, within.0, within.1.0, within.1.1.0) depth 12,
  λ n h p e.
      let asked : ProductAsked c.of-md.result.p c.args.a.now c.args.b.now p.now =
      rw e (product-again _ _ _ _ (product-room _ _ _ _ (omega arith) (omega arith)) n) in
      (search rules, λ q r. search rules),
)
