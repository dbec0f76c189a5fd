use Rattle.matrix_pivots.specs.Pivot.{values_of}
use Rattle.matrix_steps.proofs.Next.{StepOf, step-of, no-step}
use Rattle.matrix_reduction.proofs.Loop.{next-asked, lower-asked}
use Rattle.matrix_reduction.proofs.Alone.{alone-start, stepped-none, stepped-pair}
use Rattle.matrix_reduction.proofs.single.once.Goals as goal
use Rattle.matrix_reduction.proofs.single.once.Goals.{In-Some}

-- the step
on : (c : In-Some) → let s = c.args.shape in StepOf s.n s.m (values_of s.m s.w c.args.r.now) c.all-pivots.result c.in-Some.step
on c =
    let going = alone-start c.requires c.all-pivots.ensures in
    step-of going.found c.in-Some.ensures

pub next_step-requires : goal.next_step-requires
next_step-requires c = next-asked c.requires (alone-start c.requires c.all-pivots.ensures)

pub returns-in_default : goal.returns-in_default
returns-in_default c =
    let going = alone-start c.requires c.all-pivots.ensures in
    stepped-none c.requires (no-step going.found c.in_default.ensures)

pub lower-requires : goal.lower-requires
lower-requires c =
    lower-asked c.requires (alone-start c.requires c.all-pivots.ensures) (on (goal.at.lower-requires c).In-Some)

pub returns : goal.returns
returns c =
    stepped-pair c.requires c.all-pivots.ensures (on (goal.at.returns c).In-Some) c.lower.ensures
