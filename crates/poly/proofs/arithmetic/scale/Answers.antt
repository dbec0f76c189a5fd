use native.Mathlib.Omega.{arith}
use mathlib.Core.Path.{ap, ◌∙◌}
use Prim.Native.Nat.{ℕ, ◌*◌, ◌%◌}
use Rattle.theory_lists.proofs.Change.{changing-start, changing-turn, changing-end}
use Rattle.poly.specs.arithmetic.Operations.{scaled_by}
use Rattle.poly.proofs.arithmetic.scale.Goals as goal

pub loop-i-init : goal.loop-i-init
loop-i-init c = changing-start _ _

pub loop-i-preserved : goal.loop-i-preserved
loop-i-preserved c =
    changing-turn _ _ _ _ c.loop-i.invariant _ (omega arith)
    (c.from-in-loop-i.ensures ∙ c.product.ensures ∙ ap (λ (x : ℕ). c.args.c.0 * x % c.args.md.p) c.from.ensures)

pub returns : goal.returns
unfolding scaled_by
returns c = changing-end _ _ _ _ c.loop-i.invariant (omega arith)
