-- All stages, one after the other.
use Rattle.std.specs.Prelude.{List, ℕ, suc, ◌*◌, ◌-◌, ◌≤◌, length}
use Rattle.theory_algebra.specs.Prime.{Prime}
use Rattle.theory_algebra.specs.Residue.{Zp}
use Rattle.matrix_promises.specs.Held.{Held}
use Rattle.matrix_promises.specs.Layout.{by_rows}
use Rattle.matrix_determinant.specs.Sizes.{places, cells}
use Rattle.matrix_determinant.specs.Stage.{FrontHeld}

-- the first stage, of m columns, and so room for every later one
pub record RunAsked (p m w wide : ℕ) (r column product : List ℕ) : Type 0 where
  pub prime : Prime p
  pub r_room : places m w ≤ length r
  pub column_room : cells m wide ≤ length column
  pub whole : ℕ → Zp p
  pub held : FrontHeld p prime m w wide (suc m * (w - 1)) whole r column product

-- whatever whole the stages have, it is what `product` holds in the end
pub record Ran (p m w wide : ℕ) (r column product product' : List ℕ) : Type 0 where
  pub by : (P : Prime p) (whole : ℕ → Zp p) → FrontHeld p P m w wide (suc m * (w - 1)) whole r column product
      → Held (by_rows 1 1 wide) p product' (λ _ _. whole)
