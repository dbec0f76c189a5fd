-- The first stage of the determinant of a matrix.
use mathlib.Core.Path.{refl, ap}
use mathlib.Core.List.{List}
use Prim.Native.Nat.{ℕ, suc, ◌-◌, ◌*◌, ◌≤◌, ◌<◌}
use native.Mathlib.Nat as N
use native.Mathlib.Omega.{arith}
use lib.Seq.{take_all}
use Rattle.theory_algebra.specs.Field.{Field}
use Rattle.theory_algebra.specs.Matrix.{Same}
use Rattle.theory_algebra.specs.Prime.{Prime}
use Rattle.theory_algebra.specs.Residue.{Zp}
use Rattle.theory_algebra.proofs.Matrix.{identity-same}
use Rattle.theory_rings.specs.PrimeField.{zp_field}
use Rattle.theory_rings.specs.Series.{series}
use Rattle.theory_lattice.specs.Row.{Row}
use Rattle.theory_lattice.proofs.Coefficients.{below_more}
use Rattle.theory_lists.specs.Skip.{skip}
use Rattle.theory_lists.proofs.Skip.{skip-low}
use Rattle.theory_determinant.specs.Determinant.{det}
use Rattle.theory_determinant.proofs.Stage.{stage-start}
use Rattle.poly.specs.Holds.{Holds}
use Rattle.matrix_promises.specs.Held.{Held}
use Rattle.matrix_buffers.proofs.Diagonal.{held-identity}
use Rattle.matrix_promises.proofs.Held.{held-bounded, held-matrix-same}
use Rattle.matrix_promises.specs.Layout.{by_rows}
use Rattle.matrix_determinant.specs.FirstStage.{Laid}
use Rattle.matrix_determinant.proofs.LastColumn.{held_next, held-column, column-cell}
use Rattle.matrix_determinant.specs.Stage.{FrontHeld}

module _ {p : ℕ} (P : Prime p) {m w wide : ℕ} (some : 0 < w) (widened : w ≤ wide) (room : suc m * (w - 1) < wide)
    {A : ℕ → Row (Zp p)} {a r column product : List ℕ} (input : Held (by_rows (suc m) (suc m) w) p a A)
    (laid_out : Laid m w wide a r column product) where
  abbrev K : Field (Zp p)
  K = zp_field p P

  -- no row is taken out
  all : (s : ℕ) → s < suc m → skip (suc m) s < suc m
  all s ls = omega (arith, skip-low (suc m) s ls)

  as-it-is : (columns : ℕ) → Same (suc m) columns (λ s. A (skip (suc m) s)) A
  as-it-is columns s j ls lj = ap (λ (x : ℕ). A x j) (skip-low (suc m) s ls)

  holds-one : Holds p product (series K.ring).𝟙
  holds-one =
      let held = held-identity p P 1 wide (omega arith) laid_out.one in
      rw (N.zero-mul, take_all wide product (omega (arith, held.size)), identity-same (series K.ring) 0)
      at (column-cell held 0 (omega arith))

  pub first-stage : FrontHeld p P m w wide (suc m * (w - 1)) (det (series K.ring) (suc m) A) r column product
  first-stage = record {
    front = record {
      f = (series K.ring).𝟙;
      rows = record {
        T = A;
        matrix = held-matrix-same (by_rows (suc m) m w) p (as-it-is m) (held_next input all laid_out.parted);
        parted = held-matrix-same (by_rows (suc m) 1 wide) p (λ s j ls lj. as-it-is (suc m) s m ls (omega arith))
            (held-column input all laid_out.parted widened);
        stage = stage-start K w (wide - 1) (suc m) m (w - 1) refl A
            (λ s ls c lc. below_more K.ring (A s c) _ _ (omega arith) (held-bounded (by_rows (suc m) (suc m) w) p P input s ls c lc))
            (omega arith) (omega arith);
      };
      size = omega (arith, laid_out.one.size);
      so_far = holds-one;
    };
  }
