use native.Mathlib.Omega.{arith}
use mathlib.Core.Path.{sym, ◌∙◌}
use Prim.Native.Nat.{◌+◌, ◌≤◌}
use lib.ListN.{length}
use Rattle.poly.proofs.arithmetic.Places.{nothing-added, fits, part-back}
use Rattle.poly.proofs.arithmetic.add_multiple.Goals as goal
use Rattle.poly.proofs.arithmetic.add_multiple.Goals.{Else-n-eq0}

pub returns-then-n-eq0 : goal.returns-then-n-eq0
returns-then-n-eq0 c = nothing-added _ _ _ _ _ c.requires (sym c.used-n.ensures.0 ∙ c.if-n-eq0.true)

-- there is room for what b has
room : (c : Else-n-eq0) → c.args.e + c.used-n.result ≤ length c.args.a.now
room c = fits _ _ _ _ _ c.requires _ c.used-n.ensures.0 (omega arith)

pub overflow_add-e : goal.overflow_add-e
overflow_add-e c = omega (arith, room (goal.at.overflow_add-e c).Else-n-eq0)

pub offset_bounds-a-e : goal.offset_bounds-a-e
offset_bounds-a-e c = omega (arith, room (goal.at.offset_bounds-a-e c).Else-n-eq0)

pub slice_bounds-add_scaled-end : goal.slice_bounds-add_scaled-end
slice_bounds-add_scaled-end c = omega (arith, room (goal.at.slice_bounds-add_scaled-end c).Else-n-eq0)

pub returns : goal.returns
returns c =
    part-back _ _ _ _ _ c.requires _ c.used-n.ensures.0 (omega arith) _ c.add_scaled.ensures
