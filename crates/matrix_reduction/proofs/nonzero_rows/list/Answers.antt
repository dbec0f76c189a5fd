use Rattle.std.proofs.Common.{rules, ◌≡◌, arith, sym, ◌∙◌}
use Rattle.matrix_reduction.proofs.NonzeroRows.{Turn, listing_start, listing-turn, listing_end}
use Rattle.matrix_reduction.proofs.nonzero_rows.list.Goals as goal
use Rattle.matrix_reduction.proofs.nonzero_rows.list.Goals.{In-Some}

pub loop-i-init : goal.loop-i-init
loop-i-init c =
    let count : c.into_iter-i-iterator.result.count ≡ 0 = search rules in
    let rest : c.into_iter-i-iterator.result.iter.rest.now ≡ c.args.r.now = search rules in
    (search rules, tt, search rules, rw (count, rest) (listing_start _ _ _ _))

-- the row that comes
turn : (c : In-Some) → Turn c.args.shape.n c.args.shape.m c.args.shape.w c.args.r.now c.loop-i.rows c.in-Some.i c.in-Some.row.now c.next.new.self.iter.rest.now
turn c =
    let steps = c.in-Some.ensures.steps in
    rw steps.1 (listing-turn c.requires c.loop-i.invariant.3 _ _ steps.0.1.0 (steps.0.1.1 ∙ c.loop-i.invariant.2))

pub overflow_shl-rows : goal.overflow_shl-rows
overflow_shl-rows c = omega (arith, (turn (goal.at.overflow_shl-rows c).In-Some).fits)

pub overflow_add-rows : goal.overflow_add-rows
overflow_add-rows c = omega (arith, (turn (goal.at.overflow_add-rows c).In-Some).sum_fits)

pub loop-i-preserved-then-used-ne0 : goal.loop-i-preserved-then-used-ne0
loop-i-preserved-then-used-ne0 c =
    let steps = c.in-Some.ensures.steps in
    let x = turn (goal.at.loop-i-preserved-then-used-ne0 c).In-Some in
    (search rules, tt, steps.0.0 ∙ c.loop-i.invariant.2, rw (steps.2, ← steps.1) (x.listed (omega (arith, c.used.ensures.0)) (omega (arith, x.sum_fits))))

pub loop-i-preserved : goal.loop-i-preserved
loop-i-preserved c =
    let steps = c.in-Some.ensures.steps in
    let x = turn (goal.at.loop-i-preserved c).In-Some in
    (search rules, tt, steps.0.0 ∙ c.loop-i.invariant.2, rw (steps.2, ← steps.1) (x.passed (sym c.used.ensures.0 ∙ c.if-used-ne0.false)))

pub returns : goal.returns
returns c = listing_end c.requires c.loop-i.invariant.3 (rw c.loop-i.invariant.2 at c.in-None.ensures.steps.0.1.0)
