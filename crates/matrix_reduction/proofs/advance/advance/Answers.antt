use borrow.Author.Rules.{rules}
use native.Mathlib.Omega.{arith}
use Prim.Native.Nat.{◌*◌, ◌<◌}
use Rattle.theory_lists.proofs.Grid.{one_line}
use Rattle.matrix_reduction.proofs.Transforms.{follow-asked}
use Rattle.matrix_reduction.proofs.advance.advance.Goals as goal

pub overflow_add-top : goal.overflow_add-top
overflow_add-top c =
    let n = c.args.shape.n in
    let w = c.args.shape.w in
    let rows : 0 < n = omega (arith, c.requires.move.l_fits) in
    omega (arith, c.requires.move.v_size, one_line n w rows, one_line n (n * w) rows)

pub follow-requires : goal.follow-requires
follow-requires c =
    rw c.places.ensures (follow-asked c.requires c.lower-x.ensures)

pub returns : goal.returns
returns c =
    record { multiple = c.lower-x.result.multiple; lowered = c.lower-x.ensures; followed = search rules }
