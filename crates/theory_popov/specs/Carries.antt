-- What every move to the Popov form keeps.
use Rattle.std.specs.Prelude.{ℕ}
use Rattle.theory_algebra.specs.Field.{Field}
use Rattle.theory_lattice.specs.Row.{Row}
use Rattle.theory_lattice.specs.PolynomialMatrix.{Transformed}
use Rattle.theory_reduction.specs.Narrow.{Narrow}
use Rattle.theory_reduction.specs.Step.{Carried}

-- t was carried from A: "U and V follow every move"
pub record Carries {F : Type 0} (K : Field F) (n m size : ℕ) (A : ℕ → Row F) (t : Carried F) : Type 0 where
  pub transformed : Transformed K.ring n m A t.R t.U t.V'
  pub narrow : Narrow K n m size A t
