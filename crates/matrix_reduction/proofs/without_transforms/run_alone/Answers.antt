use borrow.Author.Rules.{rules}
use native.Mathlib.Omega.{arith}
use Rattle.matrix_pivots.specs.Pivot.{values_of}
use Rattle.matrix_steps.proofs.Next.{StepOf, step-of, no-step}
use Rattle.matrix_reduction.proofs.Loop.{count_fits, next-asked, lower-asked, falls, going_on}
use Rattle.matrix_reduction.proofs.Alone.{alone-start, alone-last}
use Rattle.matrix_reduction.proofs.without_transforms.run_alone.Goals as goal
use Rattle.matrix_reduction.proofs.without_transforms.run_alone.Goals.{In-Some}

-- the step of a turn
on : (c : In-Some) → let s = c.args.shape in StepOf s.n s.m (values_of s.m s.w c.loop-step.r) c.loop-step.pivots c.in-Some.step
on c =
    let going = c.loop-step.invariant in
    step-of going.found c.in-Some.ensures

pub loop-step-init : goal.loop-step-init
loop-step-init c = search (rules, alone-start)

pub next_step-requires : goal.next_step-requires
next_step-requires c = next-asked c.requires c.loop-step.invariant

pub lower-requires : goal.lower-requires
lower-requires c =
    lower-asked c.requires c.loop-step.invariant (on (goal.at.lower-requires c).In-Some)

pub overflow_add-count : goal.overflow_add-count
overflow_add-count c = omega (arith, count_fits c.requires c.loop-step.invariant)

pub loop-step-smaller : goal.loop-step-smaller
loop-step-smaller c =
    falls c.requires c.loop-step.invariant (on (goal.at.loop-step-smaller c).In-Some) c.lower.ensures

pub loop-step-preserved : goal.loop-step-preserved
loop-step-preserved c =
    going_on c.requires c.loop-step.invariant (on (goal.at.loop-step-preserved c).In-Some) c.lower.ensures (λ P some rows. tt)

pub returns : goal.returns
returns c =
    let going = c.loop-step.invariant in
    alone-last c.requires going (no-step going.found c.in_default.ensures) c.rank-rank.ensures
