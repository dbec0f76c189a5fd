-- The list of rows that the reduction returns.
use Rattle.std.specs.Prelude.{◌≡◌, List, ℕ, ◌*◌, ◌^◌, ◌<◌}
use Rattle.theory_algebra.specs.Prime.{Prime}
use Rattle.theory_algebra.specs.Residue.{Zp}
use Rattle.theory_rings.specs.PrimeField.{zp_field}
use Rattle.theory_lists.specs.Total.{total}
use Rattle.theory_reduction.specs.Pivot.{values}
use Rattle.theory_reduction.specs.Rank.{sign}
use Rattle.theory_reduction.specs.Run.{Runs}
use Rattle.theory_reduction.specs.Step.{Carried, begin}
use Rattle.matrix_promises.specs.Layout.{by_rows}
use Rattle.matrix_promises.specs.Held.{matrix_of}

-- of n rows those where z is not 0, as a mask in which bit i stands for row i, counted from 0
abbrev pub mask_of : ℕ → (ℕ → ℕ) → ℕ
mask_of n z = total n (λ i. sign (z i) * 2 ^ i)

-- "The reduction also lists the independent rows of A, as the numbers of the rows that are not zero in R", A being the matrix in a
pub record ListedBy (p : ℕ) (P : Prime p) (some : 0 < p) (n m w : ℕ) (a : List ℕ) (rows : ℕ) : Type 0 where
  pub count : ℕ
  pub t : Carried (Zp p)
  pub runs : Runs (zp_field p P) n m w count (begin (zp_field p P).ring (matrix_of (by_rows n m w) p some a)) t
  pub rows_are : rows ≡ mask_of n (values (zp_field p P) m w t.R)

-- whatever proof of primality is in hand
pub record IsRowList (p n m w : ℕ) (a : List ℕ) (rows : ℕ) : Type 0 where
  pub by : (P : Prime p) (some : 0 < p) → ListedBy p P some n m w a rows
