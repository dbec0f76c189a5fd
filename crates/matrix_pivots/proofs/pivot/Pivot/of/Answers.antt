use native.Mathlib.Omega.{arith}
use mathlib.Core.Path.{sym, subst, ◌∙◌}
use Rattle.theory_algebra.proofs.Flag.{denied}
use Rattle.theory_lists.proofs.Last.{IsLast, last-is}
use Rattle.matrix_pivots.proofs.Bits.{some-column}
use Rattle.matrix_pivots.proofs.Search.{pivot-found, pivot-none, zeros-more}
use Rattle.matrix_pivots.proofs.pivot.Pivot.of.Goals as goal

pub loop-t-init : goal.loop-t-init
loop-t-init c = (c.requires.within, c.requires.zeros)

pub returns-then-not-is_zero_row : goal.returns-then-not-is_zero_row
returns-then-not-is_zero_row c =
    pivot-found _ _ _ _ _ c.requires.columns c.loop-t-test.true c.loop-t.invariant.0
    (some-column (denied c.is_zero_row.ensures c.if-not-is_zero_row.true)) c.loop-t.invariant.1
    (subst (IsLast _ _) (sym c.rightmost-index.ensures) (last-is _ _))

pub loop-t-preserved : goal.loop-t-preserved
loop-t-preserved c =
    let none = sym c.rightmost-index.ensures ∙ c.is_zero_row.ensures.0 c.if-not-is_zero_row.false in
    (omega (arith, c.loop-t.invariant.0), zeros-more _ _ _ c.args.row.now c.loop-t-test.true c.loop-t.invariant.1 none)

pub returns : goal.returns
returns c =
    pivot-none _ _ _ c.requires.columns (λ d s l f. c.loop-t.invariant.1 d s l (omega arith))
