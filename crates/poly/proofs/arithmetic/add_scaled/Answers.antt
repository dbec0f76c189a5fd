use native.Mathlib.Omega.{arith}
use mathlib.Core.Path.{ap₂, ◌∙◌}
use Prim.Native.Nat.{ℕ, ◌+◌, ◌*◌, ◌%◌}
use Rattle.theory_lists.proofs.Change.{changing-start, changing-turn, changing-end}
use Rattle.poly.proofs.arithmetic.add_scaled.Goals as goal

pub loop-i-init : goal.loop-i-init
loop-i-init c = changing-start _ _

pub loop-i-preserved : goal.loop-i-preserved
loop-i-preserved c =
    changing-turn _ _ _ _ c.loop-i.invariant _ (omega arith)
    (c.from-in-loop-i-2.ensures ∙ c.plus_product.ensures
    ∙ ap₂ (λ (x y : ℕ). (x + c.args.c.0 * y) % c.args.md.p) c.from.ensures c.from-in-loop-i.ensures)

pub returns : goal.returns
returns c = changing-end _ _ _ _ c.loop-i.invariant (omega arith)
