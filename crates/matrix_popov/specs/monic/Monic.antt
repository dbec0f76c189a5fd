-- "Last, divide each non-zero row by its pivot's leading coefficient; zero rows stay.": what is asked, and what is left.
use Rattle.std.specs.Prelude.{◌≡◌, List, ℕ, zero, suc, ◌*◌, ◌<◌}
use Rattle.theory_algebra.specs.Prime.{Prime}
use Rattle.theory_algebra.specs.Residue.{Zp}
use Rattle.theory_rings.specs.PrimeField.{zp_field}
use Rattle.theory_reduction.specs.Step.{Carried}
use Rattle.theory_popov.specs.Scaled.{scaled}
use Rattle.poly.specs.residues.Modulus.{Inverse}
use Rattle.matrix_promises.specs.Holding.{Holding}
use Rattle.matrix_buffers.specs.Bounds.{Bounds}
use Rattle.matrix_buffers.specs.Scaled.{RowScaled, ColumnScaled}
use Rattle.matrix_pivots.specs.Pivot.{values_of, Pivots}
use Rattle.matrix_pivots.specs.declared.pivot.Pivot.{Pivot}
use Rattle.matrix_steps.specs.multiple.Asked.{PivotAsked}
use Rattle.matrix_steps.specs.multiple.Factor.{leading_at}

-- row i of matrices that the buffers hold, with its pivot
pub record RowToDivide (p n m w i : ℕ) (pivot : Pivot) (r u v : List ℕ) : Type 0 where
  pub prime : Prime p
  pub t : Carried (Zp p)
  pub holding : Holding p n m w r u v t
  pub fits : i < n
  pub led : 0 < pivot.index.0 → PivotAsked m w i pivot r

-- c for a row of pivot index x > 0, and 1 for a zero row
abbrev pub where_some : ℕ → ℕ → ℕ
where_some zero c = 1
where_some (suc x) c = c

-- row i of R and of U was divided by its leading coefficient c, that is multiplied by its inverse f, and column i of V was multiplied by c
pub record RowDivided (p n m w i : ℕ) (pivot : Pivot) (r u v r' u' v' : List ℕ) : Type 0 where
  pub c : ℕ
  pub f : ℕ
  pub c_is : c ≡ where_some pivot.index.0 (leading_at m w r i pivot)
  pub inverse : Inverse p c f
  pub r_divided : RowScaled p m w f i r r'
  pub u_divided : RowScaled p n (n * w) f i u u'
  pub v_multiplied : ColumnScaled p n w c i v v'

-- matrices that the buffers hold, with the pivots of the rows of R
pub record MonicAsked (p n m w : ℕ) (r u v : List ℕ) (pivots : List Pivot) : Type 0 where
  pub prime : Prime p
  pub bounds : Bounds n m w
  pub t : Carried (Zp p)
  pub holding : Holding p n m w r u v t
  pub pivots_are : Pivots n m (values_of m w r) pivots

-- what the buffers held is divided; U and V follow
pub record MadeMonic (p n m w : ℕ) (r u v r' u' v' : List ℕ) : Type 0 where
  pub by : (P : Prime p) (t : Carried (Zp p)) → Holding p n m w r u v t → Holding p n m w r' u' v' (scaled (zp_field p P) m w t)
