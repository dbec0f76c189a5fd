use mathlib.Core.Path.{subst}
use Prim.Native.Nat.{◌+◌, ◌*◌, ◌≤◌}
use native.Mathlib.Nat.{zero-mul, sub-zero}
use native.Mathlib.Omega.{arith}
use lib.ListN.{length}
use Rattle.theory_lists.proofs.Grid.{line-end}
use Rattle.printer_writing.specs.Wrote.{Room}
use Rattle.printer_writing.proofs.Writing.{begun-start, begun_more, begun-room, begun-end, first-room}
use Rattle.printer_writing.proofs.Turns.{lines_next, lines_end}
use Rattle.printer_writing.proofs.put_result.Goals as goal
use Rattle.printer_writing.proofs.put_result.Goals.{In-loop-c}

-- the numbers of the next cell
within : (c : In-loop-c) → c.loop-c.c * (c.args.d + 1) + (c.args.d + 1) ≤ length c.args.r.now
within c = omega (
  arith,
  c.requires.matrix.places,
  line-end c.loop-c.c (c.args.n * c.args.m) (c.args.d + 1) c.loop-c-test.true,
)

pub loop-c-init : goal.loop-c-init
loop-c-init c = rw (zero-mul, sub-zero) begun-start

pub put_line-i-requires : goal.put_line-i-requires
put_line-i-requires c =
    let room = begun-room c.loop-c.invariant c.requires.room in
    rw c.key_of_cell-key.ensures (first-room _ _ (subst (Room _ _) (lines_next _ _ _ _ _ c.loop-c-test.true) room))

pub loop-c-preserved : goal.loop-c-preserved
loop-c-preserved c =
    begun_more c.loop-c.invariant _ (lines_next _ _ _ _ _ c.loop-c-test.true) (rw c.key_of_cell-key.ensures at c.put_line-i.ensures)

pub returns : goal.returns
returns c = begun-end c.loop-c.invariant (lines_end _ _ _ _ _ c.loop-c-test.false)
