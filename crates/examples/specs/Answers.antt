-- What the definitions give for the matrix in a: n rows and m columns of polynomials of d + 1 places over Z/p.
use Rattle.std.specs.Prelude.{◌≡◌, List, ℕ, ◌+◌, ◌<◌, length, get_or}
use Rattle.theory_algebra.specs.Prime.{Prime}
use Rattle.theory_rings.specs.PrimeField.{zp_field}
use Rattle.matrix_promises.specs.Held.{matrix_of}
use Rattle.matrix_promises.specs.Layout.{by_rows}
use Rattle.theory_reduction.specs.Pivot.{values, index}
use Rattle.matrix_promises.specs.Refused.{reduction_sizes}
use Rattle.matrix_promises.specs.Service.{Promise}
use Rattle.matrix_promises.specs.Services.{WholeCall, ReductionOutcome, PopovOutcome, lengths, reduction, popov_form}

-- a call of the reduction or of the Popov form, whose buffers hold r, u and v at entry
abbrev pub call_of : (p n m d : ℕ) (a r u v : List ℕ) → WholeCall
call_of p n m d a r u v = record { p = p; n = n; m = m; d = d; a = a; r = r; u = u; v = v }

-- the answers to a call of the reduction and to one of the Popov form, as these services promise them: buffers have the lengths of the
-- paper's table, and hold anything at entry
pub record Answers (p n m d : ℕ) (a : List ℕ) : Type 0 where
  pub weak : ReductionOutcome
  pub reduced : (r u v : List ℕ) → lengths (call_of p n m d a r u v) ≡ reduction_sizes n m d → Promise reduction (call_of p n m d a r u v) 0 0 weak
  pub popov : PopovOutcome
  pub formed : (r u v : List ℕ) → lengths (call_of p n m d a r u v) ≡ reduction_sizes n m d → Promise popov_form (call_of p n m d a r u v) 0 0 popov

-- l has the pivot index of each row
pub record ArePivots (p n m d : ℕ) (a l : List ℕ) : Type 0 where
  pub size : length l ≡ n
  pub index_is : (P : Prime p) (some : 0 < p) (i : ℕ) → i < n
      → get_or l i 0 ≡ index m (values (zp_field p P) m (d + 1) (matrix_of (by_rows n m (d + 1)) p some a) i)
