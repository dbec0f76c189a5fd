-- What is left when a row is taken out.
use mathlib.Core.Path.{◌≡◌, sym, ◌∙◌}
use mathlib.Core.List.{List, ◌++◌}
use Prim.Native.Nat.{ℕ, suc, ◌+◌, ◌-◌, ◌*◌, ◌≤◌}
use native.Mathlib.Nat as N
use native.Mathlib.Omega.{arith}
use lib.ListN.{length, take}
use lib.Seq.{take_at, length-take-le}
use Rattle.theory_lists.specs.Part.{part}
use Rattle.theory_lists.proofs.Grid.{line-end}
use Rattle.theory_lists.proofs.Skip.{skip-fits}
use Rattle.matrix_pivots.specs.declared.pivot.Pivot.{Pivot}
use Rattle.matrix_determinant.specs.LastColumn.{PartAsked, Parted}
use Rattle.matrix_determinant.specs.SignedProduct.{sign_of, signed_product}
use Rattle.matrix_determinant.specs.Sizes.{cells}
use Rattle.matrix_determinant.specs.ZeroRow.{Lowest, TakeAsked, TakenOut}
use Rattle.matrix_determinant.proofs.LastColumn.{one-column}

module _ {p m w wide : ℕ} {pivots : List Pivot} {r column next product : List ℕ}
    (asked : TakeAsked p m w wide pivots r column next product) where
  one_less : suc (m - 1) ≡ m
  one_less = omega (arith, asked.columns)

  -- the cells of the rows that are left
  pub cells_fit : cells (m - 1) wide ≤ length column
  cells_fit = rw one_less (omega (arith, asked.column_size, one-column (suc m) wide, N.mul-le-mul_right wide (N.le-suc m)))

  module _ {k : ℕ} (lowest : Lowest pivots k) where
    pub left-asked : PartAsked (m - 1) w wide k r next (take (cells (m - 1) wide) column)
    left-asked = record {
      inside = rw one_less (λ s ls. omega (arith, asked.r_size, line-end _ (suc m) (m * w) (skip-fits m k s ls)));
      next_size = asked.next_size;
      column_size = length-take-le (cells (m - 1) wide) column cells_fit ∙ sym (one-column (suc (m - 1)) wide);
    }

    -- in front of what else was in `column`
    pub taken_out : {next' column' product' : List ℕ} (rest : List ℕ) → Parted (m - 1) w wide k r next' column'
        → product' ≡ signed_product p (sign_of (k + m)) product (part (k * wide) wide column)
        → TakenOut p m w wide pivots r column product next' (column' ++ rest) product'
    taken_out {column' = column'} rest parted factor = record {
      k = k;
      lowest = lowest;
      factor = factor;
      parted = rw (take_at column' rest (cells (m - 1) wide) (parted.column_size ∙ one-column (suc (m - 1)) wide)) parted;
    }
