-- The result of the reduction, with its transforms and alone.
use Rattle.std.specs.Prelude.{◌≡◌, List, ℕ, ◌<◌}
use Rattle.theory_algebra.specs.Prime.{Prime}
use Rattle.theory_algebra.specs.Residue.{Zp}
use Rattle.theory_rings.specs.PrimeField.{zp_field}
use Rattle.theory_reduction.specs.Step.{Carried, begin}
use Rattle.theory_reduction.specs.Run.{Runs}
use Rattle.theory_reduction.specs.Rank as Rank
use Rattle.matrix_promises.specs.Layout.{by_rows}
use Rattle.matrix_promises.specs.Held.{Held, matrix_of}
use Rattle.matrix_promises.specs.Holding.{Holding}

module _ (p : ℕ) (P : Prime p) (some : 0 < p) (n m w : ℕ) (a : List ℕ) where
  -- "The whole reduction is this step repeated until none applies. Its count is the number of steps so defined": from the matrix in a,
  -- `count` steps lead to what stands in r, u and v, where no step applies
  pub record ReducedBy (r u v : List ℕ) (rank count : ℕ) : Type 0 where
    pub t : Carried (Zp p)
    pub runs : Runs (zp_field p P) n m w count (begin (zp_field p P).ring (matrix_of (by_rows n m w) p some a)) t
    pub holding : Holding p n m w r u v t
    -- "Rank: the number of non-zero rows of R."
    pub rank_is : rank ≡ Rank.rank (zp_field p P) n m w t.R

  -- the same of R alone: U and V are not kept
  pub record AloneBy (r : List ℕ) (rank count : ℕ) : Type 0 where
    pub t : Carried (Zp p)
    pub runs : Runs (zp_field p P) n m w count (begin (zp_field p P).ring (matrix_of (by_rows n m w) p some a)) t
    pub held : Held (by_rows n m w) p r t.R
    pub rank_is : rank ≡ Rank.rank (zp_field p P) n m w t.R

-- whatever proof of primality is in hand
pub record IsReduction (p n m w : ℕ) (a r u v : List ℕ) (rank count : ℕ) : Type 0 where
  pub by : (P : Prime p) (some : 0 < p) → ReducedBy p P some n m w a r u v rank count

pub record IsReducedAlone (p n m w : ℕ) (a r : List ℕ) (rank count : ℕ) : Type 0 where
  pub by : (P : Prime p) (some : 0 < p) → AloneBy p P some n m w a r rank count
