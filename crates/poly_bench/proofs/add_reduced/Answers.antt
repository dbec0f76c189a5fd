use contract.BorrowLft.{⊑_meet, ⊑_static}
use borrow.Author.Rules.{rules}
use native.Mathlib.Omega.{arith}
use Rattle.theory_lists.specs.Coefficients.{Coefficients}
use Rattle.poly.specs.arithmetic.Operations.{MultipleAsked}
use Rattle.poly.proofs.arithmetic.Asked.{scaled-coefficients, with-room}
use Rattle.poly_bench.proofs.Rounds.{sum-again}
use Rattle.poly_bench.proofs.add_reduced.Goals as goal

-- what the step borrows lives as long as the step, and what it asks holds in each round
pub repeat-requires : goal.repeat-requires
repeat-requires c κs within = (
  search (⊑_meet, ⊑_static, within.0, within.1.0, within.1.1.0, within.1.1.1.0) depth 12,
  λ n h p e.
      let target : Coefficients c.args.md.p c.scale.new.a = rw c.scale.ensures (scaled-coefficients _ _ _ (omega arith)) in
      let source : Coefficients c.args.md.p c.scale-2.new.a = rw c.scale-2.ensures (scaled-coefficients _ _ _ (omega arith)) in
      let first : MultipleAsked c.args.md.p c.of-f.result.0 c.args.e c.scale.new.a c.scale-2.new.a =
      with-room _ _ _ _ _ (omega arith) target source (omega (arith, c.scale.auto.a, c.scale-2.auto.a)) in
      let asked : MultipleAsked c.args.md.p c.of-f.result.0 c.args.e p.now c.scale-2.new.a = rw e (sum-again _ _ _ _ _ (omega arith) first n) in
      (search rules, λ q r. search rules),
)
