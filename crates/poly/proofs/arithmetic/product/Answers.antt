use native.Mathlib.Omega.{arith}
use mathlib.Core.Path.{ap, ◌∙◌}
use Prim.Native.Nat.{ℕ, ◌%◌}
use Rattle.theory_lists.proofs.Change.{changing-start, changing-turn, changing-end}
use Rattle.poly.specs.arithmetic.Operations.{product_of}
use Rattle.poly.proofs.arithmetic.product.Goals as goal

pub loop-k-init : goal.loop-k-init
loop-k-init c = changing-start _ _

pub loop-k-preserved : goal.loop-k-preserved
loop-k-preserved c =
    changing-turn _ _ _ _ c.loop-k.invariant _ (omega arith)
    (c.from.ensures ∙ c.of_sum.ensures ∙ ap (λ (x : ℕ). x % c.args.md.p) c.sum_at.ensures)

pub returns : goal.returns
unfolding product_of
returns c = changing-end _ _ _ _ c.loop-k.invariant (omega arith)
