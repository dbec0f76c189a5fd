-- The services: reduction, single step, Popov form and determinant.
use Rattle.std.specs.Prelude.{List, [], ◌∷◌, ℕ, ◌+◌, length}
use Rattle.matrix_promises.specs.Refused.{reduction_sizes, step_sizes, matrix_table, determinant_table}
use Rattle.matrix_promises.specs.Service.{Service}
use Rattle.matrix_promises.specs.Reduced.{IsReduction}
use Rattle.matrix_promises.specs.RowList.{IsRowList}
use Rattle.matrix_promises.specs.SteppedOnce.{SteppedOnce}
use Rattle.matrix_promises.specs.Popov.{IsPopov}
use Rattle.matrix_promises.specs.Determinant.{IsDeterminant}

-- a call with the buffers "input, result, U, V", by what they hold at entry
pub record WholeCall : Type 0 where
  pub p : ℕ
  pub n : ℕ
  pub m : ℕ
  pub d : ℕ
  pub a : List ℕ
  pub r : List ℕ
  pub u : List ℕ
  pub v : List ℕ

-- a call with "input and result only"
pub record ShortCall : Type 0 where
  pub p : ℕ
  pub n : ℕ
  pub m : ℕ
  pub d : ℕ
  pub a : List ℕ
  pub r : List ℕ

-- the lengths of the buffers
abbrev pub lengths : WholeCall → List ℕ
lengths c = length c.a ∷ length c.r ∷ length c.u ∷ length c.v ∷ []

abbrev pub short_lengths : ShortCall → List ℕ
short_lengths c = length c.a ∷ length c.r ∷ []

-- what the reduction returns, and what result, U and V hold at exit
pub record ReductionOutcome : Type 0 where
  pub rank : ℕ
  pub count : ℕ
  pub rows : ℕ
  pub r : List ℕ
  pub u : List ℕ
  pub v : List ℕ

-- "reduction to weak Popov form with the transform U, its inverse V, rank and step count"
abbrev pub reduction : Service
reduction = record {
  Call = WholeCall;
  Outcome = ReductionOutcome;
  table = λ c. matrix_table c.p c.n c.m c.d (lengths c) (reduction_sizes c.n c.m c.d) c.a;
  -- "Rank and counts in a refusal are 0, the row list is empty, and every buffer holds what it held at entry."
  kept = λ c. record { rank = 0; count = 0; rows = 0; r = c.r; u = c.u; v = c.v };
  Done = λ c x.
      IsReduction c.p c.n c.m (c.d + 1) c.a x.r x.u x.v x.rank x.count
      × IsRowList c.p c.n c.m (c.d + 1) c.a x.rows;
}

-- what the Popov form returns: "The two counts, first kind and second kind, are returned apart", and what result, U and V hold at exit
pub record PopovOutcome : Type 0 where
  pub rank : ℕ
  pub first : ℕ
  pub second : ℕ
  pub r : List ℕ
  pub u : List ℕ
  pub v : List ℕ

-- "the Popov form with its own U, V and rank and two counts"
abbrev pub popov_form : Service
popov_form = record {
  Call = WholeCall;
  Outcome = PopovOutcome;
  table = λ c. matrix_table c.p c.n c.m c.d (lengths c) (reduction_sizes c.n c.m c.d) c.a;
  kept = λ c. record { rank = 0; first = 0; second = 0; r = c.r; u = c.u; v = c.v };
  Done = λ c x. IsPopov c.p c.n c.m (c.d + 1) c.a x.r x.u x.v x.rank x.first x.second;
}

-- what the single step returns, and what the result holds at exit
pub record StepOutcome : Type 0 where
  pub count : ℕ
  pub r : List ℕ

-- "one single step of it"
abbrev pub single_step : Service
single_step = record {
  Call = ShortCall;
  Outcome = StepOutcome;
  table = λ c. matrix_table c.p c.n c.m c.d (short_lengths c) (step_sizes c.n c.m c.d) c.a;
  kept = λ c. record { count = 0; r = c.r };
  Done = λ c x. SteppedOnce c.p c.n c.m (c.d + 1) x.count c.a x.r;
}

-- "the determinant": what the result holds at exit
abbrev pub determinant : Service
determinant = record {
  Call = ShortCall;
  Outcome = List ℕ;
  table = λ c. determinant_table c.p c.n c.m c.d (short_lengths c) c.a;
  kept = λ c. c.r;
  Done = λ c x. IsDeterminant c.p c.n c.d c.a x;
}
