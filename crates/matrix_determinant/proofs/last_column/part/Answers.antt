use native.Mathlib.Nat.{add-sub_cancel_left}
use native.Mathlib.Omega.{arith}
use mathlib.Core.Path.{◌≡◌, ◌∙◌}
use Prim.Native.Nat.{suc, ◌<◌}
use Rattle.theory_lists.proofs.Part.{length_part}
use Rattle.matrix_determinant.proofs.LastColumn.{cells-fit, parting-turn, parting-end}
use Rattle.matrix_determinant.proofs.last_column.part.Goals as goal
use Rattle.matrix_determinant.proofs.last_column.part.Goals.{In-loop-s}

more : (c : In-loop-s) → c.loop-s.s < suc c.args.stage.m
more c = rw c.rows-s-end.ensures at c.loop-s-test.true

pub slice_bounds-fill-end-in-loop-s : goal.slice_bounds-fill-end-in-loop-s
slice_bounds-fill-end-in-loop-s c =
    (cells-fit c.requires c.loop-s.invariant (more (goal.at.slice_bounds-fill-end-in-loop-s c).In-loop-s)).1

pub loop-s-preserved : goal.loop-s-preserved
loop-s-preserved c =
    let fits = (cells-fit c.requires c.loop-s.invariant (more (goal.at.loop-s-preserved c).In-loop-s)).1 in
    let same = simp add-sub_cancel_left at rw c.row_left.ensures at c.copy.ensures in
    simp add-sub_cancel_left (rw same (parting-turn c.requires c.fill.new.buf c.loop-s.invariant (more (goal.at.loop-s-preserved c).In-loop-s)
    (simp add-sub_cancel_left at c.fill.auto.buf ∙ length_part _ _ _ fits) (simp add-sub_cancel_left at rw c.row_left.ensures at c.fill.ensures)))

pub returns : goal.returns
returns c =
    let all : c.loop-s.s ≡ suc c.args.stage.m = omega arith in
    parting-end c.requires c.args.stage.sizes.widened (rw all at c.loop-s.invariant)
