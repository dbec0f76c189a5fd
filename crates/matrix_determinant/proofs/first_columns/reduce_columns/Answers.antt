use native.Mathlib.Omega.{arith}
use Prim.Native.Nat.{suc}
use lib.ListN.{take}
use Rattle.matrix_steps.specs.Next.{StepOn}
use Rattle.matrix_determinant.proofs.FirstColumns as Columns
use Rattle.matrix_determinant.proofs.first_columns.reduce_columns.Goals as goal
use Rattle.matrix_determinant.proofs.first_columns.reduce_columns.Goals.{In-Some}

found : (c : In-Some) → StepOn (take (suc c.args.stage.m) c.loop-step.pivots) c.in-Some.step
found c = rw c.rows-n.ensures at c.in-Some.ensures

pub loop-step-init : goal.loop-step-init
loop-step-init c = Columns.going_start c.requires (rw c.rows-n.ensures at c.all-pivots.ensures)

pub next_step-requires : goal.next_step-requires
next_step-requires c = rw c.rows-n.ensures (Columns.next-asked c.args.stage.sizes c.loop-step.invariant)

pub returns : goal.returns
returns c = Columns.going-stop c.args.stage.sizes c.loop-step.invariant (rw c.rows-n.ensures at c.in_default.ensures)

pub degree_sum-requires : goal.degree_sum-requires
degree_sum-requires c = rw c.rows-n.ensures (omega (arith, Columns.going-sum c.args.stage.sizes c.loop-step.invariant))

pub overflow_sub-top : goal.overflow_sub-top
overflow_sub-top c = rw (c.degree_sum.ensures, c.rows-n.ensures) (Columns.going-sum c.args.stage.sizes c.loop-step.invariant).0

pub lower-x-requires : goal.lower-x-requires
lower-x-requires c = Columns.lower-asked c.args.stage.sizes c.loop-step.invariant (found (goal.at.lower-x-requires c).In-Some)

pub add_row-requires : goal.add_row-requires
add_row-requires c =
    rw (c.places.ensures, c.degree_sum.ensures, c.rows-n.ensures)
    (Columns.column-asked c.args.stage.sizes c.loop-step.invariant (found (goal.at.add_row-requires c).In-Some) c.lower-x.ensures.factor)

pub loop-step-smaller : goal.loop-step-smaller
loop-step-smaller c =
    Columns.falls c.args.stage.sizes c.loop-step.invariant (found (goal.at.loop-step-smaller c).In-Some) c.lower-x.ensures

pub loop-step-preserved : goal.loop-step-preserved
loop-step-preserved c =
    Columns.going_on c.args.stage.sizes c.loop-step.invariant (found (goal.at.loop-step-preserved c).In-Some) c.lower-x.ensures
    c.add_row.ensures
