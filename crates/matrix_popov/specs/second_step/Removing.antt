-- What the steps of the second kind ask on the buffers, and what they leave.
use Rattle.std.specs.Prelude.{◌≡◌, List, ℕ, ◌+◌, ◌*◌, ◌-◌, ◌≤◌, ◌<◌}
use Rattle.theory_algebra.specs.Prime.{Prime}
use Rattle.theory_algebra.specs.Residue.{Zp}
use Rattle.theory_rings.specs.PrimeField.{zp_field}
use Rattle.theory_lattice.specs.Row.{Row}
use Rattle.theory_lattice.specs.PolynomialMatrix.{AllBounded}
use Rattle.theory_lists.specs.Coefficients.{Coefficients}
use Rattle.theory_lists.specs.Place.{spot}
use Rattle.theory_reduction.specs.Step.{Carried}
use Rattle.theory_popov.specs.SecondRun.{SecondRuns}
use Rattle.theory_popov.specs.Tidy.{Tidy}
use Rattle.theory_popov.specs.Carries.{Carries}
use Rattle.matrix_promises.specs.Holding.{Holding}
use Rattle.matrix_buffers.specs.Bounds.{Bounds}
use Rattle.matrix_pivots.specs.Pivot.{values_of, index_at, Pivots}
use Rattle.matrix_pivots.specs.declared.pivot.Pivot.{Pivot}
use Rattle.matrix_rows.specs.Asked.{Short}
use Rattle.matrix_steps.specs.multiple.Factor.{coefficient_at, leading_at, Divided}
use Rattle.matrix_steps.specs.multiple.Asked.{CoefficientAsked, PivotAsked}
use Rattle.matrix_steps.specs.Subtraction.{Moved}
use Rattle.matrix_steps.specs.Asked.{MoveAsked}
use Rattle.matrix_popov.specs.second_step.Excess.{excess_at}

-- row k has a term of x^e times the leading term of row i, whose pivot is `low`
pub record TermAsked (p m w k i : ℕ) (low : Pivot) (e : ℕ) (r : List ℕ) : Type 0 where
  pub prime : Prime p
  pub residues : Coefficients p r
  pub i_pivot : PivotAsked m w i low r
  pub k_term : CoefficientAsked m w k low.index.0 (low.degree.0 + e) r

-- "the multiple c·x^e of the row that has it […] that removes that term": c is the coefficient of that term, divided by the leading
-- coefficient of row i
abbrev pub Removes : (p m w k i : ℕ) (low : Pivot) (e : ℕ) (r : List ℕ) (x c f : ℕ) → Type 0
Removes p m w k i low e r = Divided p (coefficient_at m w r k low.index.0 (low.degree.0 + e)) (leading_at m w r i low) e

-- such a term, where that multiple of row i fits; the pivot of row k is `high`
pub record RemoveAsked (p n m w k i : ℕ) (high low : Pivot) (e : ℕ) (r u v : List ℕ) : Type 0 where
  pub term : TermAsked p m w k i low e r
  pub i_short : Short w low.degree.0 m (spot m w i) r
  pub k_most : high.degree.0 ≤ w
  pub move : MoveAsked p n w k i e (n * w - e) (w + 1 - high.degree.0) u v

-- a step of the second kind: "subtract the multiple"
abbrev pub SecondMove : (p n m w k i : ℕ) (low : Pivot) (e : ℕ) (r u v r' u' v' : List ℕ) → Type 0
SecondMove p n m w k i low e r u v =
    Moved p n m w k i (coefficient_at m w r k low.index.0 (low.degree.0 + e)) (leading_at m w r i low) e r u v

-- the buffers hold a state t that was carried from a bounded matrix A; the first `rank` rows of its R are not zero and ascend, the others
-- are zero
pub record Standing (p : ℕ) (P : Prime p) (n m w rank : ℕ) (A : ℕ → Row (Zp p)) (r u v : List ℕ) (t : Carried (Zp p)) : Type 0 where
  pub holding : Holding p n m w r u v t
  pub tidy : Tidy (zp_field p P) n m w rank t.R
  pub bounded : AllBounded (zp_field p P).ring n m w A
  pub carries : Carries (zp_field p P) n m w A t

-- such a state with the pivots of its rows
pub record RemovingAsked (p n m w : ℕ) (r u v : List ℕ) (pivots : List Pivot) : Type 0 where
  pub prime : Prime p
  pub bounds : Bounds n m w
  pub pivots_are : Pivots n m (values_of m w r) pivots
  pub rank : ℕ
  pub A : ℕ → Row (Zp p)
  pub t : Carried (Zp p)
  pub standing : Standing p prime n m w rank A r u v t

-- the rows before k have no excess over earlier rows
pub record ClearedTo (m w k : ℕ) (r : List ℕ) (pivots : List Pivot) : Type 0 where
  pub none : (a j : ℕ) → j < a → a < k → excess_at m w r pivots a j ≡ 0

-- and row k, which is not zero, is the next
pub record ClearAsked (p n m w k : ℕ) (r u v : List ℕ) (pivots : List Pivot) : Type 0 where
  pub removing : RemovingAsked p n m w r u v pivots
  pub before : ClearedTo m w k r pivots
  pub k_fits : k < n
  pub k_some : 0 < index_at pivots k

-- `count` steps of the second kind on the first k rows lead from t to a state that the buffers hold, where none applies to them
pub record ClearedBy (p : ℕ) (P : Prime p) (n m w rank : ℕ) (A : ℕ → Row (Zp p)) (k count : ℕ) (t : Carried (Zp p)) (r u v : List ℕ) : Type 0 where
  pub t' : Carried (Zp p)
  pub runs : SecondRuns (zp_field p P) k m w count t t'
  pub standing : Standing p P n m w rank A r u v t'

-- from whatever such state the buffers r, u and v held, whatever proof of primality is in hand; the pivots are as they were
pub record Cleared (p n m w k count : ℕ) (pivots : List Pivot) (r u v r' u' v' : List ℕ) : Type 0 where
  pub pivots_are : Pivots n m (values_of m w r') pivots
  pub by : (P : Prime p) (rank : ℕ) (A : ℕ → Row (Zp p)) (t : Carried (Zp p)) → Standing p P n m w rank A r u v t
      → ClearedBy p P n m w rank A k count t r' u' v'
