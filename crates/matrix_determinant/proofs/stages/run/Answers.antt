use native.Mathlib.Omega.{arith}
use mathlib.Core.Path.{◌≡◌, sym}
use lib.Seq.{length-take-le}
use Rattle.matrix_determinant.proofs.Fronts.{staging-start, fits, stage-asked, staging-on, end-asked, ran}
use Rattle.matrix_determinant.proofs.stages.run.Goals as goal

pub loop-m-init : goal.loop-m-init
loop-m-init c = rw (c.rows-m.ensures, c.rows.ensures) staging-start

pub slice_bounds-turn-end : goal.slice_bounds-turn-end
slice_bounds-turn-end c = rw c.places-size.ensures (fits c.requires c.loop-m.invariant).0

pub slice_bounds-turn-end-in-loop-m : goal.slice_bounds-turn-end-in-loop-m
slice_bounds-turn-end-in-loop-m c = sym (length-take-le _ _ (rw c.places-size.ensures (fits c.requires c.loop-m.invariant).0))

pub turn-budget-requires : goal.turn-budget-requires
turn-budget-requires c =
    rw (c.places-size.ensures, c.cells-cells.ensures) (stage-asked c.requires c.loop-m.invariant (omega arith))

pub loop-m-preserved : goal.loop-m-preserved
loop-m-preserved c =
    let size = c.places-size.ensures in
    let cells = c.cells-cells.ensures in
    let kept = c.turn-budget.auto in
    rw (size, cells) (staging-on c.requires c.loop-m.invariant (omega arith) (rw (size, cells) at c.turn-budget.ensures)
    (rw size at kept.r) (rw cells at kept.column))

pub multiply-requires : goal.multiply-requires
multiply-requires c =
    let one : c.loop-m.m ≡ 1 = omega arith in
    end-asked c.requires (rw one at c.loop-m.invariant) c.args.first.sizes

pub returns : goal.returns
returns c =
    let one : c.loop-m.m ≡ 1 = omega arith in
    ran c.requires (rw one at c.loop-m.invariant) c.args.first.sizes c.multiply.ensures c.multiply.auto.product
