-- What is found is a residue.
use mathlib.Core.List.{List}
use Prim.Native.Nat.{ℕ, ◌-◌, ◌<◌}
use native.Mathlib.Nat.{mod-lt}
use native.Mathlib.Omega.{arith}
use Rattle.theory_lists.proofs.Grid.{within}
use Rattle.theory_lists.specs.Coefficients.{Coefficients}
use Rattle.matrix_pivots.specs.declared.pivot.Pivot.{Pivot}
use Rattle.matrix_steps.specs.multiple.Factor.{coefficient_at, leading_at, Divided}
use Rattle.matrix_steps.specs.multiple.Asked.{CoefficientAsked, DivideAsked, PlanAsked}

-- a coefficient of the matrix is a residue
pub coefficient-below : {p m w i x h : ℕ} {r : List ℕ} → Coefficients p r → CoefficientAsked m w i x h r → coefficient_at m w r i x h < p
coefficient-below {m = m} {w = w} {x = x} {h = h} residues a = residues.below _
    (omega (arith, a.row, within (x - 1) (h - 1) m w (omega (arith, a.column, a.column_most)) (omega (arith, a.height, a.height_most))))

-- so two leading coefficients of which the second is not 0 can be divided
pub divide-asked : {p m w l k : ℕ} {high low : Pivot} {r : List ℕ} → PlanAsked p m w l k high low r
    → DivideAsked p (leading_at m w r l high) (leading_at m w r k low)
divide-asked asked = record {
  prime = asked.prime;
  dividend = coefficient-below asked.residues asked.l_pivot.leading;
  divisor = coefficient-below asked.residues asked.k_pivot.leading;
  nonzero = asked.k_pivot.nonzero;
}

-- what is added in place of a subtraction is a residue too
pub negative-below : {p a b d e c f : ℕ} → Divided p a b d e c f → f < p
negative-below {p} {c = c} g = rw g.f_is (mod-lt (p - c) (omega (arith, g.c_below)))
