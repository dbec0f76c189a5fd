-- The three demands of paper 01, each a proposition about the promises of the services. That each holds is proved (`demand-1`, `demand-2`,
-- `demand-3`).
use Rattle.std.specs.Prelude.{◌≡◌, ◌↔◌, List, ℕ, ◌+◌, ◌<◌}
use Rattle.theory_algebra.specs.Prime.{Prime}
use Rattle.theory_rings.specs.PrimeField.{zp_field}
use Rattle.theory_lattice.specs.PolynomialMatrix.{LeftEquivalent}
use Rattle.matrix_promises.specs.Answering.{Told}
use Rattle.matrix_promises.specs.Layout.{by_rows}
use Rattle.matrix_promises.specs.Held.{matrix_of}
use Rattle.matrix_promises.specs.Service.{Service, Promise}
use Rattle.matrix_promises.specs.Services.{WholeCall, ReductionOutcome, PopovOutcome, reduction, single_step, popov_form, determinant}
use Rattle.matrix_promises.specs.Facts.{ReducedFacts, FormedFacts}

-- "Every call ends with an answer. Bad input is refused by its number, in the fixed order of checks, and every lent buffer stays untouched."
-- That a call ends is part of what is proved of a function; its promise has no condition, and allows one answer.
pub record OneAnswer (S : Service) : Type 0 where
  pub one : (call : S.Call) (k i l j : ℕ) (x y : S.Outcome) → Promise S call k i x → Promise S call l j y → (k ≡ l) × (i ≡ j) × (x ≡ y)
  pub in_order : (call : S.Call) (k i : ℕ) (x : S.Outcome) → Promise S call k i x → Told (S.table call) k i
  pub untouched : (call : S.Call) (k i : ℕ) (x : S.Outcome) → Promise S call k i x → 0 < k → x ≡ S.kept call

abbrev pub Demand1 : Type 0
Demand1 = OneAnswer reduction × OneAnswer single_step × OneAnswer popov_form × OneAnswer determinant

-- "The result is the weak Popov form of the report, by its simple transformations in paper 01's fixed order. U·A = R, V·R = A, U·V = V·U =
-- identity. Rank, determinant, Popov form and counts are those of their definitions": the promises say that they are what the definitions
-- give (`Reduced`, `Popov`, `Determinant`), and of every call that is done the facts hold.
pub record Demand2 : Type 0 where
  pub reduced : (c : WholeCall) (x : ReductionOutcome) → Promise reduction c 0 0 x → (P : Prime c.p) (some : 0 < c.p) → ReducedFacts c P some x
  pub formed : (c : WholeCall) (x : PopovOutcome) → Promise popov_form c 0 0 x → (P : Prime c.p) (some : 0 < c.p) → FormedFacts c P some x

-- "Two accepted matrices (same p, n, m, d) have equal Popov forms exactly when a square polynomial matrix with a polynomial inverse,
-- multiplied from the left, turns the one into the other": the two results are equal in every coefficient
abbrev pub Demand3 : Type 0
Demand3 = (p n m d : ℕ) (a r u v b s y z : List ℕ) (one other : PopovOutcome)
    → Promise popov_form (record { p = p; n = n; m = m; d = d; a = a; r = r; u = u; v = v }) 0 0 one
    → Promise popov_form (record { p = p; n = n; m = m; d = d; a = b; r = s; u = y; v = z }) 0 0 other
    → (P : Prime p) (some : 0 < p)
    → let M = matrix_of (by_rows n m (d + 1)) p some in (one.r ≡ other.r) ↔ LeftEquivalent (zp_field p P).ring n m (M a) (M b)
