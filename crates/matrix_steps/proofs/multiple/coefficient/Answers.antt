use native.Mathlib.Omega.{arith}
use mathlib.Core.Path.{◌≡◌, ap, ap₂, ◌∙◌}
use Prim.Native.Nat.{ℕ, ◌+◌, ◌*◌, ◌<◌}
use lib.ListN.{get_or}
use Rattle.theory_lists.specs.Place.{spot}
use Rattle.theory_lists.proofs.Grid.{within}
use Rattle.matrix_steps.proofs.multiple.coefficient.Goals as goal
use Rattle.matrix_steps.proofs.multiple.coefficient.Goals.{After-degree-t}

-- the coefficient lies in the row
inside : (c : After-degree-t) → let s = c.args.shape in
    (c.column-j.result * s.w + c.degree-t.result < s.m * s.w) × (c.args.i * c.row-s.result ≡ c.args.i * (s.m * s.w))
inside c =
    let pre = c.requires in (
      within _ _ _ _ (omega (arith, c.column-j.ensures, pre.column, pre.column_most))
          (omega (arith, c.degree-t.ensures, pre.height, pre.height_most)),
      ap (λ (x : ℕ). c.args.i * x) c.row-s.ensures,
    )

pub overflow_mul-j : goal.overflow_mul-j
overflow_mul-j c = omega (arith, inside (goal.at.overflow_mul-j c).After-degree-t, c.requires.row)

pub overflow_add-j : goal.overflow_add-j
overflow_add-j c = omega (arith, inside (goal.at.overflow_add-j c).After-degree-t, c.requires.row)

pub overflow_add-i : goal.overflow_add-i
overflow_add-i c = omega (arith, inside (goal.at.overflow_add-i c).After-degree-t, c.requires.row)

pub offset_bounds-r-i : goal.offset_bounds-r-i
offset_bounds-r-i c = omega (arith, inside (goal.at.offset_bounds-r-i c).After-degree-t, c.requires.row, c.well_formed)

pub bounds-r-i : goal.bounds-r-i
bounds-r-i c = omega (arith, inside (goal.at.bounds-r-i c).After-degree-t, c.requires.row)

pub returns : goal.returns
returns c =
    let args = c.args in
    rw c.row-s.ensures at c.from.ensures
    ∙ ap₂ (λ (x y : ℕ). get_or args.r.now (spot args.shape.m args.shape.w args.i x y) 0) c.column-j.ensures c.degree-t.ensures
