-- One stage after the other, in the front of the buffers.
use mathlib.Core.Path.{◌≡◌, refl, sym, ap, ◌∙◌}
use mathlib.Core.List.{List, ◌++◌}
use Prim.Native.Nat.{ℕ, suc, ◌-◌, ◌*◌, ◌≤◌, ◌<◌}
use native.Mathlib.Nat as N
use native.Mathlib.Omega.{arith}
use lib.ListN.{length, get_or, take, drop}
use lib.Seq.{length_front, take_all, take-append-le, length-take-le}
use Rattle.theory_algebra.specs.Field.{Field}
use Rattle.theory_algebra.specs.Polynomial.{Below}
use Rattle.theory_algebra.specs.Prime.{Prime}
use Rattle.theory_algebra.specs.Residue.{Zp}
use Rattle.theory_rings.specs.PrimeField.{zp_field}
use Rattle.theory_rings.specs.Series.{series}
use Rattle.theory_lattice.proofs.Coefficients.{below_more}
use Rattle.theory_lists.proofs.Change.{get_or-past}
use Rattle.theory_lists.proofs.Grid.{one_line}
use Rattle.theory_determinant.proofs.Stage.{stage-last}
use Rattle.poly.specs.Holds.{Holds}
use Rattle.matrix_promises.specs.Held.{Held}
use Rattle.matrix_promises.specs.Layout.{by_rows}
use Rattle.matrix_determinant.specs.SignedProduct.{signed_product, MultiplyAsked}
use Rattle.matrix_determinant.specs.declared.product.Sign.TheVariants.{Plus}
use Rattle.matrix_determinant.proofs.LastColumn.{column-cell}
use Rattle.matrix_determinant.proofs.SignedProduct.{multiply-asked, holds-signed}
use Rattle.matrix_determinant.specs.Sizes.{Sizes, places, cells}
use Rattle.matrix_determinant.specs.Stage.{FrontHeld, StageAsked, Staged}
use Rattle.matrix_determinant.specs.AllStages.{RunAsked, Ran}

-- a stage is smaller than the one before it
pub smaller : (m w wide : ℕ) → (places (m - 1) w ≤ places m w) × (cells (m - 1) wide ≤ cells m wide)
smaller m w wide =
    let rows : suc (m - 1) ≤ suc m = omega arith in
    (N.mul-le-mul rows (N.mul-le-mul_right w (N.sub-le m 1)), N.mul-le-mul_right wide rows)

-- a polynomial by itself
held-single : {p w : ℕ} {l : List ℕ} {f : ℕ → Zp p} → length l ≡ w → Holds p l f → Held (by_rows 1 1 w) p l (λ _ _. f)
held-single {w = w} {l = l} size h = record {
  size = omega (arith, size);
  at = λ i j t li lj lt. let first : i ≡ 0 = omega arith in let only : j ≡ 0 = omega arith in
      rw (first, only) (ap (λ (x : ℕ). get_or l x 0) (omega arith) ∙ h.at t);
  beyond = λ i j t li lj past. sym (h.at t) ∙ get_or-past l t (omega (arith, size));
}

-- what stands in front of longer buffers
pub front-longer : {p : ℕ} {P : Prime p} {m w wide budget : ℕ} {whole : ℕ → Zp p} {r column product : List ℕ} (beside under : List ℕ)
    → places m w ≤ length r → cells m wide ≤ length column → FrontHeld p P m w wide budget whole r column product
    → FrontHeld p P m w wide budget whole (r ++ beside) (column ++ under) product
front-longer {m = m} {w = w} {wide = wide} {r = r} {column = column} beside under r-fits column-fits h = record {
  front = rw (take-append-le (places m w) r beside r-fits, take-append-le (cells m wide) column under column-fits) h.front;
}

-- where the loop over the stages stands, when the next one is of m - 1 columns
pub record Staging (p m₀ w wide : ℕ) (r₀ column₀ product₀ r column product : List ℕ) (m budget : ℕ) : Type 0 where
  pub some : 0 < m
  pub reached : m ≤ suc m₀
  pub by : (P : Prime p) (whole : ℕ → Zp p) → FrontHeld p P m₀ w wide (suc m₀ * (w - 1)) whole r₀ column₀ product₀
      → FrontHeld p P (m - 1) w wide budget whole r column product
  pub r-same : length r ≡ length r₀
  pub column-same : length column ≡ length column₀

pub staging-start : {p m w wide : ℕ} {r column product : List ℕ}
    → Staging p m w wide r column product r column product (suc m) (suc m * (w - 1))
staging-start {m = m} = record {
  some = omega arith;
  reached = omega arith;
  by = λ P whole h. let one : suc m - 1 ≡ m = omega arith in rw one h;
  r-same = refl;
  column-same = refl;
}

module _ {p m₀ w wide : ℕ} {r₀ column₀ product₀ : List ℕ} (asked : RunAsked p m₀ w wide r₀ column₀ product₀) where
  module _ {r column product : List ℕ} {m budget : ℕ} (now : Staging p m₀ w wide r₀ column₀ product₀ r column product m budget) where
    -- where a stage lies in the buffers: it has no more rows than the first one
    pub fits : (places (m - 1) w ≤ length r) × (cells (m - 1) wide ≤ length column)
    fits =
        let columns : m - 1 ≤ m₀ = omega (arith, now.reached) in
        let rows : suc (m - 1) ≤ suc m₀ = omega arith in (
          omega (arith, asked.r_room, now.r-same, N.mul-le-mul rows (N.mul-le-mul_right w columns)),
          omega (arith, asked.column_room, now.column-same, N.mul-le-mul_right wide rows),
        )

    pub stage-asked : 0 < m - 1
        → StageAsked p (m - 1) w wide budget (take (places (m - 1) w) r) (take (cells (m - 1) wide) column) product
    stage-asked columns = record {
      prime = asked.prime;
      columns = columns;
      whole = asked.whole;
      held = (now.by asked.prime asked.whole asked.held).front;
    }

    -- the stage is made, in front of what else there was
    pub staging-on : 0 < m - 1 → {budget' : ℕ} {r' column' product' : List ℕ}
        → Staged p (m - 1) w wide budget budget' (take (places (m - 1) w) r) (take (cells (m - 1) wide) column) product r' column' product'
        → length r' ≡ length (take (places (m - 1) w) r) → length column' ≡ length (take (cells (m - 1) wide) column)
        → Staging p m₀ w wide r₀ column₀ product₀ (r' ++ drop (places (m - 1) w) r) (column' ++ drop (cells (m - 1) wide) column) product'
        (m - 1) budget'
    staging-on columns {r' = r'} {column' = column'} staged r-kept column-kept = record {
      some = columns;
      reached = omega (arith, now.reached);
      by = λ P whole h.
          front-longer _ _ (omega (arith, r-kept, length-take-le _ r fits.0, smaller (m - 1) w wide))
          (omega (arith, column-kept, length-take-le _ column fits.1, smaller (m - 1) w wide)) (staged.by P whole (now.by P whole h).front);
      r-same = length_front r r' (places (m - 1) w) r-kept ∙ now.r-same;
      column-same = length_front column column' (cells (m - 1) wide) column-kept ∙ now.column-same;
    }

  -- no column is left beside the parted one
  module _ {r column product : List ℕ} {budget : ℕ} (now : Staging p m₀ w wide r₀ column₀ product₀ r column product 1 budget)
      (sizes : Sizes m₀ w wide) where
    pub cell-fits : wide ≤ length column
    cell-fits = omega (arith, asked.column_room, now.column-same, one_line (suc m₀) wide (omega arith))

    -- its only entry is the last factor
    module _ (P : Prime p) {whole : ℕ → Zp p} (last_one : FrontHeld p P 0 w wide budget whole r column product) where
      open last_one use {front as held}

      abbrev K : Field (Zp p)
      K = zp_field p P

      abbrev factor : ℕ → Zp p
      factor = held.rows.T 0 0

      entry : Holds p (take wide column) factor
      entry =
          let one : cells 0 wide ≡ wide = omega arith in
          rw (N.zero-mul, one, take_all wide (take wide column) (omega (arith, length-take-le wide column cell-fits)))
          at (column-cell held.rows.parted 0 (omega arith))

      last : ((series K.ring).mul held.f factor ≡ whole) × Below K.ring ((series K.ring).mul held.f factor) (suc (wide - 1))
      last = stage-last K w (wide - 1) whole held.rows.stage refl

      last-asked : MultiplyAsked p product (take wide column)
      last-asked = multiply-asked p P held.so_far entry
          (below_more K.ring _ _ _ (omega (arith, held.size, sizes.places, sizes.widened)) last.1)
          (omega (arith, held.size, sizes.wide_most))

      last-held : {product' : List ℕ} → product' ≡ signed_product p Plus product (take wide column) → length product' ≡ length product
          → Held (by_rows 1 1 wide) p product' (λ _ _. whole)
      last-held made same = held-single (same ∙ held.size)
          (rw (made, ← last.0) (holds-signed p P held.so_far entry last-asked.product Plus))

    pub end-asked : MultiplyAsked p product (take wide column)
    end-asked = last-asked asked.prime (now.by asked.prime asked.whole asked.held)

    pub ran : {product' : List ℕ} → product' ≡ signed_product p Plus product (take wide column) → length product' ≡ length product
        → Ran p m₀ w wide r₀ column₀ product₀ product'
    ran made same = record { by = λ P whole h. last-held P (now.by P whole h) made same }
