-- What is proved of the reduction and of the Popov form, said of a call that is done and of its outcome.
use Rattle.std.specs.Prelude.{◌≡◌, ℕ, suc, ◌+◌, ◌-◌, ◌*◌, ◌≤◌, ◌<◌}
use Rattle.theory_algebra.specs.Field.{Field}
use Rattle.theory_algebra.specs.Polynomial.{Below}
use Rattle.theory_algebra.specs.Prime.{Prime}
use Rattle.theory_algebra.specs.Residue.{Zp}
use Rattle.theory_rings.specs.PrimeField.{zp_field}
use Rattle.theory_lattice.specs.PolynomialMatrix.{Transformed}
use Rattle.theory_lattice.specs.Row.{Row}
use Rattle.theory_reduction.specs.Pivot.{values}
use Rattle.theory_reduction.specs.Rank.{Independent, IsRank}
use Rattle.theory_reduction.specs.State.{state}
use Rattle.theory_reduction.specs.Step.{Carried}
use Rattle.theory_reduction.specs.WeakPopov.{WeakPopov}
use Rattle.theory_popov.specs.PopovForm.{PopovForm}
use Rattle.matrix_promises.specs.Layout.{by_rows}
use Rattle.matrix_promises.specs.Held.{matrix_of}
use Rattle.matrix_promises.specs.Holding.{Holding}
use Rattle.matrix_promises.specs.RowList.{mask_of}
use Rattle.matrix_promises.specs.Services.{WholeCall, ReductionOutcome, PopovOutcome}

-- the matrix A of a call
abbrev pub input_of : (c : WholeCall) → 0 < c.p → ℕ → Row (Zp c.p)
input_of c some = matrix_of (by_rows c.n c.m (c.d + 1)) c.p some c.a

-- "U needs no degree above n(d+1)-1 and V none above d": for U the sharp bound (n-1)d
pub record InBounds {F : Type 0} (K : Field F) (n d : ℕ) (t : Carried F) : Type 0 where
  pub u_degrees : (i j : ℕ) → i < n → j < n → Below K.ring (t.U i j) (suc ((n - 1) * d))
  pub v_degrees : (i j : ℕ) → i < n → j < n → Below K.ring (t.V' i j) (suc d)

module _ (c : WholeCall) (P : Prime c.p) (some : 0 < c.p) where
  abbrev K : Field (Zp c.p)
  K = zp_field c.p P

  -- of a reduction that is done, t being R, U and V
  pub record ReducedFacts (x : ReductionOutcome) : Type 0 where
    pub t : Carried (Zp c.p)
    pub holding : Holding c.p c.n c.m (c.d + 1) x.r x.u x.v t
    pub weak_popov : WeakPopov K.ring c.n c.m t.R
    -- U·A = R, V·R = A, U·V = V·U = 1
    pub transformed : Transformed K.ring c.n c.m (input_of c some) t.R t.U t.V'
    pub in_bounds : InBounds K c.n c.d t
    -- "the rank of A (the largest number of rows of A of which no polynomial combination vanishes but the trivial one)"
    pub rank_is : IsRank K.ring c.n c.m (input_of c some) x.rank
    -- "the count is at most the state of A less the state of R. With rank r the count is at most n·r·(d+1)."
    pub count_state : x.count + state K c.n c.m (c.d + 1) t.R ≤ state K c.n c.m (c.d + 1) (input_of c some)
    pub count_rank : x.count ≤ c.n * (x.rank * (c.d + 1))
    -- "the independent rows of A, as the numbers of the rows that are not zero in R"
    pub rows_are : x.rows ≡ mask_of c.n (values K c.m (c.d + 1) t.R)
    pub independent : Independent K.ring c.n c.m (values K c.m (c.d + 1) t.R) (input_of c some)

  -- of a Popov form that is done, t being P with its own U and V
  pub record FormedFacts (x : PopovOutcome) : Type 0 where
    pub t : Carried (Zp c.p)
    pub holding : Holding c.p c.n c.m (c.d + 1) x.r x.u x.v t
    pub form : PopovForm K.ring c.n c.m t.R
    -- U·A = P, V·P = A, U·V = V·U = 1
    pub transformed : Transformed K.ring c.n c.m (input_of c some) t.R t.U t.V'
    pub in_bounds : InBounds K c.n c.d t
    -- the rank is that of A, and P has as many rows that are not zero
    pub rank_is : IsRank K.ring c.n c.m (input_of c some) x.rank
    pub rank_form : form.rank ≡ x.rank
    -- "With rank r the count is at most n·r·(d+1)." "The second is at most r(r-1)(d+1), and 0 for r = 0."
    pub first_rank : x.first ≤ c.n * (x.rank * (c.d + 1))
    pub second_rank : x.second ≤ x.rank * ((x.rank - 1) * (c.d + 1))
