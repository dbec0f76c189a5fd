-- The room that the stages of a matrix take, and what they have in the end.
use mathlib.Core.Path.{◌≡◌}
use mathlib.Core.List.{List}
use Prim.Native.Nat.{ℕ, suc, ◌+◌, ◌-◌, ◌*◌, ◌≤◌, ◌<◌}
use native.Mathlib.Nat as N
use native.Mathlib.Omega.{arith}
use lib.ListN.{length}
use Rattle.theory_algebra.specs.Prime.{Prime}
use Rattle.theory_rings.specs.PrimeField.{zp_field}
use Rattle.theory_rings.specs.Series.{series}
use Rattle.theory_determinant.specs.Determinant.{det}
use Rattle.theory_lists.proofs.Grid.{one_line}
use Rattle.matrix_promises.specs.Held.{Held, matrix_of}
use Rattle.matrix_promises.proofs.Held.{held-matrix_of}
use Rattle.matrix_promises.specs.Layout.{by_rows}
use Rattle.matrix_determinant.specs.FirstStage.{Laid}
use Rattle.matrix_determinant.specs.Determinant.{DeterminantAsked}
use Rattle.matrix_promises.specs.Determinant.{IsDeterminant}
use Rattle.matrix_determinant.specs.Sizes.{Sizes, places, cells}
use Rattle.matrix_determinant.specs.Stage.{FrontHeld}
use Rattle.matrix_determinant.specs.AllStages.{RunAsked, Ran}
use Rattle.matrix_determinant.proofs.Beginning.{first-stage}

module _ {p n d : ℕ} {a r : List ℕ} (asked : DeterminantAsked p n d a r) where
  open asked use {checked}
  open checked use {bounds}

  -- the first stage has a column less
  one_less : suc (n - 1) ≡ n
  one_less = omega (arith, bounds.rows)

  wide_most : n * d + 1 ≤ 505
  wide_most =
      let low : d ≤ 63 = omega (arith, bounds.places_most) in
      omega (arith, N.mul-le-mul bounds.rows_most low)

  pub sizes : Sizes (n - 1) (d + 1) (n * d + 1)
  sizes = record {
    columns_most = omega (arith, bounds.rows_most, bounds.rows);
    places = bounds.places;
    places_most = bounds.places_most;
    widened = omega (arith, one_line n d bounds.rows);
    wide_most = omega (arith, wide_most);
  }

  -- the room that the stages take, at most
  places-most : places (n - 1) (d + 1) ≤ 3584
  places-most =
      let few : n - 1 ≤ 7 = omega (arith, bounds.rows_most) in
      rw one_less (N.mul-le-mul bounds.rows_most (N.mul-le-mul few bounds.places_most))

  cells-most : cells (n - 1) (n * d + 1) ≤ 4040
  cells-most = rw one_less (N.mul-le-mul bounds.rows_most wide_most)

  -- the first stage is that of the matrix in a
  module _ {columns column r' : List ℕ} (laid : Laid (n - 1) (d + 1) (n * d + 1) a columns column r') where
    begins : (P : Prime p) (some : 0 < p)
        → FrontHeld p P (n - 1) (d + 1) (n * d + 1) (suc (n - 1) * (d + 1 - 1))
        (det (series (zp_field p P).ring) n (matrix_of (by_rows n n (d + 1)) p some a)) columns column r'
    begins P some =
        let same : d + 1 - 1 ≡ d = omega arith in
        let room : suc (n - 1) * (d + 1 - 1) < n * d + 1 = rw (same, one_less) (omega arith) in
        let A = matrix_of (by_rows n n (d + 1)) p some a in
        let input : Held (by_rows (suc (n - 1)) (suc (n - 1)) (d + 1)) p a A =
        rw one_less (held-matrix_of (by_rows n n (d + 1)) p some a checked.size checked.residues) in
        rw one_less (rw one_less at (first-stage P bounds.places sizes.widened room input laid))

    pub stages-asked : length columns ≡ 3584 → length column ≡ 4040 → RunAsked p (n - 1) (d + 1) (n * d + 1) columns column r'
    stages-asked x y = record {
      prime = checked.prime;
      r_room = omega (arith, places-most);
      column_room = omega (arith, cells-most);
      whole = _;
      held = begins checked.prime (omega (arith, checked.prime.two));
    }

    pub is-determinant : {r'' : List ℕ} → Ran p (n - 1) (d + 1) (n * d + 1) columns column r' r'' → IsDeterminant p n d a r''
    is-determinant ran = record { by = λ P some. ran.by P _ (begins P some) }
