use native.Mathlib.Omega.{arith}
use Prim.Native.Nat.{◌*◌, ◌<◌}
use Rattle.theory_lists.proofs.Grid.{one_line}
use Rattle.matrix_steps.proofs.LinesAsked.{u-asked, v-asked}
use Rattle.matrix_steps.proofs.follow.Goals as goal

pub of_u-of_u-requires : goal.of_u-of_u-requires
of_u-of_u-requires c =
    let n = c.args.shape.n in
    let cell = n * c.args.shape.w in
    let rows : 0 < n = omega (arith, c.requires.move.l_fits) in
    omega (arith, c.requires.move.u_size, one_line n cell rows, one_line n (n * cell) rows)

pub add_row-requires : goal.add_row-requires
add_row-requires c = rw c.of_u-of_u.ensures (u-asked c.requires)

pub add_column-requires : goal.add_column-requires
add_column-requires c = v-asked c.requires

pub returns : goal.returns
returns c =
    record { u_move = rw c.of_u-of_u.ensures at c.add_row.ensures; v_move = c.add_column.ensures }
