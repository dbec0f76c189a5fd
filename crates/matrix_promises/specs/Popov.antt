-- The Popov form in buffers.
use Rattle.std.specs.Prelude.{◌≡◌, List, ℕ, ◌<◌}
use Rattle.theory_algebra.specs.Prime.{Prime}
use Rattle.theory_algebra.specs.Residue.{Zp}
use Rattle.theory_rings.specs.PrimeField.{zp_field}
use Rattle.theory_reduction.specs.Rank as Rank
use Rattle.theory_reduction.specs.Step.{Carried}
use Rattle.theory_popov.specs.PopovRun.{PopovRun}
use Rattle.matrix_promises.specs.Layout.{by_rows}
use Rattle.matrix_promises.specs.Held.{matrix_of}
use Rattle.matrix_promises.specs.Holding.{Holding}

-- paper 01's way from the matrix in a, by `first` steps of the first kind and `second` of the second, ends at what stands in r, u and v:
-- P with its own U and V
pub record PopovBy (p : ℕ) (P : Prime p) (some : 0 < p) (n m w : ℕ) (a r u v : List ℕ) (rank first second : ℕ) : Type 0 where
  pub t : Carried (Zp p)
  pub run : PopovRun (zp_field p P) n m w (matrix_of (by_rows n m w) p some a) first second t
  pub holding : Holding p n m w r u v t
  -- "Rank: the number of non-zero rows", which are as many in P as in R
  pub rank_is : rank ≡ Rank.rank (zp_field p P) n m w t.R

-- whatever proof of primality is in hand
pub record IsPopov (p n m w : ℕ) (a r u v : List ℕ) (rank first second : ℕ) : Type 0 where
  pub by : (P : Prime p) (some : 0 < p) → PopovBy p P some n m w a r u v rank first second
