use borrow.Author.Rules.{rules}
use native.Mathlib.Omega.{arith}
use mathlib.Core.Path.{◌≡◌, sym, ◌∙◌}
use Prim.Native.Nat.{◌-◌}
use lib.Seq.{length-take-le}
use Rattle.matrix_determinant.specs.Sizes.{places}
use Rattle.matrix_determinant.proofs.Turning.{next-small, take-asked, left-small, next-front, front-room, staged}
use Rattle.matrix_determinant.proofs.stages.turn.Goals as goal
use Rattle.matrix_determinant.proofs.stages.turn.Goals.{After-places-end}

-- the places of the next stage
end-is : (c : After-places-end) → c.places-end.result ≡ places (c.args.stage.m - 1) c.args.stage.w
end-is c = rw (c.smaller.ensures.columns, c.smaller.ensures.places) at c.places-end.ensures

pub take_out-requires : goal.take_out-requires
take_out-requires c =
    rw (c.rows.ensures, end-is (goal.at.take_out-requires c).After-places-end)
    (take-asked c.args.stage.sizes c.requires c.reduce_columns-all.ensures (search rules)
    (length-take-le _ _ (omega (arith, next-small c.args.stage.sizes c.requires, c.zeros-room.ensures.0))))

pub slice_bounds-copy_from_slice-end : goal.slice_bounds-copy_from_slice-end
slice_bounds-copy_from_slice-end c =
    rw (end-is (goal.at.slice_bounds-copy_from_slice-end c).After-places-end)
    (front-room c.args.stage.sizes c.requires c.reduce_columns-all.ensures)

pub slice_bounds-copy_from_slice-end-2 : goal.slice_bounds-copy_from_slice-end-2
slice_bounds-copy_from_slice-end-2 c =
    rw (end-is (goal.at.slice_bounds-copy_from_slice-end-2 c).After-places-end)
    (sym (length-take-le _ _ (front-room c.args.stage.sizes c.requires c.reduce_columns-all.ensures)))

pub copy_from_slice-requires : goal.copy_from_slice-requires
copy_from_slice-requires c =
    rw (end-is (goal.at.copy_from_slice-requires c).After-places-end)
    (length-take-le _ _ (front-room c.args.stage.sizes c.requires c.reduce_columns-all.ensures)
    ∙ sym (length-take-le _ _ (next-front c.take_out.ensures _)))

pub degree_sum-requires : goal.degree_sum-requires
degree_sum-requires c =
    rw c.rows.ensures (omega (arith, left-small c.args.stage.sizes c.requires c.reduce_columns-all.ensures (search rules)))

pub returns : goal.returns
returns c =
    staged c.args.stage.sizes c.requires c.reduce_columns-all.ensures (search rules) _ _
    (rw c.rows.ensures at c.degree_sum.ensures) (rw c.rows.ensures at c.take_out.ensures) c.take_out.auto.product
    (rw (end-is (goal.at.returns c).After-places-end) at c.copy_from_slice.ensures.after)
