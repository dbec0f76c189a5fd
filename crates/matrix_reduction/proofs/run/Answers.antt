use borrow.Author.Rules.{rules}
use native.Mathlib.Omega.{arith}
use Rattle.matrix_pivots.specs.Pivot.{values_of}
use Rattle.matrix_steps.proofs.Next.{StepOf, step-of, no-step}
use Rattle.matrix_reduction.proofs.Loop.{count_fits, next-asked}
use Rattle.matrix_reduction.proofs.Transforms.{running-start, running-stop}
use Rattle.matrix_reduction.proofs.Transforms.{reach-fits, advance-asked, lower, running-falls, running-on}
use Rattle.matrix_reduction.proofs.run.Goals as goal
use Rattle.matrix_reduction.proofs.run.Goals.{In-Some}

-- the step of a turn
on : (c : In-Some) → let s = c.args.shape in StepOf s.n s.m (values_of s.m s.w c.loop-step.r) c.loop-step.pivots c.in-Some.step
on c =
    let going = c.loop-step.invariant.going in
    step-of going.found c.in-Some.ensures

pub loop-step-init : goal.loop-step-init
loop-step-init c = search (rules, running-start)

pub next_step-requires : goal.next_step-requires
next_step-requires c = next-asked c.requires.input c.loop-step.invariant.going

pub overflow_add-reach : goal.overflow_add-reach
overflow_add-reach c =
    omega (arith, c.places.ensures, reach-fits c.requires c.loop-step.invariant (on (goal.at.overflow_add-reach c).In-Some))

pub overflow_sub-reach : goal.overflow_sub-reach
overflow_sub-reach c =
    omega (arith, c.places.ensures, reach-fits c.requires c.loop-step.invariant (on (goal.at.overflow_sub-reach c).In-Some))

pub advance-new-requires : goal.advance-new-requires
advance-new-requires c =
    rw c.places.ensures (advance-asked c.requires c.loop-step.invariant (on (goal.at.advance-new-requires c).In-Some))

pub overflow_sub-spent : goal.overflow_sub-spent
overflow_sub-spent c =
    omega (
      arith,
      c.or_zero.ensures,
      c.or_zero-in-Some.ensures,
      lower c.requires c.loop-step.invariant (on (goal.at.overflow_sub-spent c).In-Some) c.advance-new.ensures,
    )

pub overflow_add-spent : goal.overflow_add-spent
overflow_add-spent c =
    omega (arith, c.or_zero.ensures, reach-fits c.requires c.loop-step.invariant (on (goal.at.overflow_add-spent c).In-Some))

pub overflow_add-count : goal.overflow_add-count
overflow_add-count c =
    omega (arith, count_fits c.requires.input c.loop-step.invariant.going)

pub loop-step-smaller : goal.loop-step-smaller
loop-step-smaller c =
    running-falls c.requires c.loop-step.invariant (on (goal.at.loop-step-smaller c).In-Some) c.advance-new.ensures

pub loop-step-preserved : goal.loop-step-preserved
loop-step-preserved c =
    running-on c.requires c.loop-step.invariant (on (goal.at.loop-step-preserved c).In-Some) c.advance-new.ensures
    c.or_zero.ensures c.or_zero-in-Some.ensures

pub returns : goal.returns
returns c =
    let going = c.loop-step.invariant.going in
    running-stop c.requires c.loop-step.invariant (no-step going.found c.in_default.ensures)
    c.rank-rank.ensures
