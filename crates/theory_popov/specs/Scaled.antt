-- "Last, divide each non-zero row by its pivot's leading coefficient; zero rows stay."
use Rattle.std.specs.Prelude.{ℕ, zero, suc}
use Rattle.theory_algebra.specs.Field.{Field}
use Rattle.theory_algebra.specs.Series.{const}
use Rattle.theory_algebra.specs.Matrix.{transpose, dilate}
use Rattle.theory_rings.specs.Series.{series}
use Rattle.theory_lattice.specs.Row.{Row}
use Rattle.theory_reduction.specs.Pivot.{value}
use Rattle.theory_reduction.specs.Step.{Carried, leading}

module _ {F : Type 0} (K : Field F) (m size : ℕ) where
  -- c for a row of value v > 0, and 1 for a zero row
  abbrev pub some_or_one : ℕ → F → F
  some_or_one zero c = K.ring.𝟙
  some_or_one (suc v) c = c

  -- what a row is divided by, and what it is multiplied by to divide it
  abbrev pub divisor : Row F → F
  divisor r = some_or_one (value K m size r) (leading K m size r)

  abbrev pub dividing : Row F → F
  dividing r = some_or_one (value K m size r) (K.inv (leading K m size r))

  -- the rows of R and U are divided, and the columns of V are multiplied
  abbrev pub scaled : Carried F → Carried F
  scaled t = let S = series K.ring in record {
    R = dilate S (λ i. const K.ring (dividing (t.R i))) t.R;
    U = dilate S (λ i. const K.ring (dividing (t.R i))) t.U;
    V' = transpose (dilate S (λ i. const K.ring (divisor (t.R i))) (transpose t.V'));
  }
