use native.Mathlib.Omega.{arith}
use mathlib.Core.Path.{◌≡◌}
use Rattle.theory_algebra.proofs.Flag.{denied}
use Rattle.matrix_pivots.proofs.Bits.{some-column}
use Rattle.matrix_popov.proofs.second_step.Clearing.{cleared-start, cleared-count, cleared-then, clear-asked, cleared-rest}
use Rattle.matrix_popov.proofs.second_step.remove_all.Goals as goal

pub loop-k-init : goal.loop-k-init
loop-k-init c = cleared-start c.requires.asked

pub returns-then-is_zero_row : goal.returns-then-is_zero_row
returns-then-is_zero_row c =
    cleared-rest c.requires.asked c.loop-k.invariant c.loop-k-test.true (c.is_zero_row.ensures.0 c.if-is_zero_row.true)

pub clear_row-count-requires-clause-asked : goal.clear_row-count-requires-clause-asked
clear_row-count-requires-clause-asked c =
    clear-asked c.requires.asked c.loop-k.invariant c.loop-k-test.true
    (some-column (denied c.is_zero_row.ensures c.if-is_zero_row.false))

pub overflow_add-count : goal.overflow_add-count
overflow_add-count c =
    let all = cleared-then c.requires.asked c.loop-k.invariant (omega arith) c.clear_row-count.ensures in
    omega (arith, cleared-count c.requires.asked all (omega (arith, c.loop-k-test.true)))

pub loop-k-preserved : goal.loop-k-preserved
loop-k-preserved c =
    cleared-then c.requires.asked c.loop-k.invariant (omega arith) c.clear_row-count.ensures

pub returns : goal.returns
returns c =
    let all : c.loop-k.k ≡ c.args.shape.n = omega (arith, c.requires.asked.bounds.rows) in
    rw all at c.loop-k.invariant
