use native.Mathlib.Omega.{arith}
use mathlib.Core.Path.{◌≡◌, sym, ◌∙◌}
use Prim.Native.Nat.{ℕ, ◌+◌, ◌-◌, ◌*◌, ◌<◌}
use Rattle.theory_lists.proofs.Grid.{line-less}
use Rattle.theory_lists.proofs.Last.{last-nil, last-zero, last-here}
use Rattle.matrix_pivots.proofs.Search.{line}
use Rattle.matrix_pivots.proofs.pivot.rightmost.Goals as goal

-- one line back from column c is column c - 1
back : (w t c at : ℕ) → 0 < c → at ≡ c * w + t → at - w ≡ (c - 1) * w + t
back w t c at some is = omega (arith, is, line-less c w some)

pub returns-then-row-at-ne0 : goal.returns-then-row-at-ne0
returns-then-row-at-ne0 c =
    let here = back c.args.shape.w c.args.t c.loop-c.c c.loop-c.at c.loop-c-test.true c.loop-c.invariant.1 in
    sym (c.loop-c.invariant.2
    ∙ last-here c.loop-c.c (line c.args.row.now c.args.shape.w c.args.t) c.loop-c-test.true (rw here at c.if-row-at-ne0.true))

pub loop-c-preserved : goal.loop-c-preserved
loop-c-preserved c =
    let here = back c.args.shape.w c.args.t c.loop-c.c c.loop-c.at c.loop-c-test.true c.loop-c.invariant.1 in (
      omega (arith, c.loop-c.invariant.0),
      here,
      c.loop-c.invariant.2
          ∙ last-zero c.loop-c.c (line c.args.row.now c.args.shape.w c.args.t) c.loop-c-test.true (rw here at c.if-row-at-ne0.false),
    )

pub returns : goal.returns
returns c =
    let none : c.loop-c.c ≡ 0 = omega (arith, c.loop-c-test.false) in
    sym (rw none at c.loop-c.invariant.2 ∙ last-nil _)
