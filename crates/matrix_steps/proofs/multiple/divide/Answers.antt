use native.Mathlib.Omega.{arith}
use borrow.Author.Rules.{rules}
use Prim.Native.Nat.{◌<◌}
use native.Mathlib.Nat.{mod-lt}
use Rattle.matrix_steps.proofs.multiple.Quotient.{divided}
use Rattle.matrix_steps.proofs.multiple.divide.Goals as goal

pub difference-negated-requires : goal.difference-negated-requires
difference-negated-requires c =
    let some : 0 < c.args.md.p = omega (arith, c.requires.dividend) in
    record { left = some; right = rw c.product-factor.ensures (mod-lt _ some) }

pub returns : goal.returns
returns c = search (rules, divided)
