-- The step on R, U and V: what it asks, and what it leaves.
use Rattle.std.specs.Prelude.{List, ℕ, ◌+◌, ◌-◌}
use Rattle.matrix_pivots.specs.declared.pivot.Pivot.{Pivot}
use Rattle.matrix_steps.specs.declared.multiple.Multiple.{Multiple}
use Rattle.matrix_steps.specs.Asked.{LowerAsked, MoveAsked}
use Rattle.matrix_steps.specs.Subtraction.{IsLowered, Followed}

-- rows l and k with their pivots, and U and V, of which a cell of row k of U has no term from `reach` on
pub record AdvanceAsked (p n m w l k : ℕ) (high low : Pivot) (reach : ℕ) (r u v : List ℕ) : Type 0 where
  pub lower : LowerAsked p m w l k high low r
  pub move : MoveAsked p n w l k (high.degree.0 - low.degree.0) reach (w + 1 - high.degree.0) u v

-- the subtraction on R, U and V, and the pivot of row l anew
pub record Advanced (p n m w l k : ℕ) (high low : Pivot) (r u v r' u' v' : List ℕ) (pivot : Pivot) : Type 0 where
  pub multiple : Multiple
  pub lowered : IsLowered p m w l k high low r r' (record { multiple = multiple; pivot = pivot })
  pub followed : Followed p n w l k multiple.exponent multiple.factor.0 multiple.negated.0 u v u' v'
