use native.Mathlib.Omega.{arith}
use Rattle.matrix_popov.proofs.second_step.Clearing.{clearing-start, clearing-count, highest-asked, clearing-end}
use Rattle.matrix_popov.proofs.second_step.Clearing.{step-asked, clearing-more, clearing-falls}
use Rattle.matrix_popov.proofs.second_step.clear_row.Goals as goal

pub loop-x-init : goal.loop-x-init
loop-x-init c = clearing-start c.requires.asked

pub highest-requires : goal.highest-requires
highest-requires c = highest-asked c.requires.asked c.loop-x.invariant c.requires.pivots_size

pub returns : goal.returns
returns c =
    clearing-end c.requires.asked c.loop-x.invariant c.in_default.ensures

pub remove-requires : goal.remove-requires
remove-requires c =
    step-asked c.requires.asked c.loop-x.invariant c.in-Some.ensures

pub overflow_add-count : goal.overflow_add-count
overflow_add-count c =
    omega (arith, clearing-count c.requires.asked c.loop-x.invariant)

pub loop-x-smaller : goal.loop-x-smaller
loop-x-smaller c =
    clearing-falls c.requires.asked c.loop-x.invariant c.in-Some.ensures
    c.remove.ensures

pub loop-x-preserved : goal.loop-x-preserved
loop-x-preserved c =
    clearing-more c.requires.asked c.loop-x.invariant c.in-Some.ensures
    c.remove.ensures
