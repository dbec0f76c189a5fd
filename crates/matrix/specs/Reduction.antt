-- The answer of the reduction, and what it promises.
use Rattle.std.specs.Prelude.{List, ℕ, Result}
use Rattle.std.specs.Result.{result_unwrap_or}
use Rattle.matrix_promises.specs.Service.{Promise}
use Rattle.matrix_promises.specs.Services.{WholeCall, ReductionOutcome, reduction}
use Rattle.matrix_refusals.specs.Number.{answer_number, answer_place}
use Rattle.matrix_refusals.specs.declared.Refusal.{Refusal}
use Rattle.matrix.specs.declared.reduction.Reduction.{Reduction}

-- the outcome of an answer, where result, U and V hold r, u and v at exit: "Rank and counts in a refusal are 0, the row list is empty"
abbrev pub outcome_of : (r u v : List ℕ) → Result Reduction Refusal → ReductionOutcome
outcome_of r u v x =
    let s = result_unwrap_or x (record { rank = 0; count = 0; rows = 0 }) in
    record { rank = s.rank; count = s.count; rows = s.rows; r = r; u = u; v = v }

-- the promise of the reduction, of an answer
abbrev pub Answered : (call : WholeCall) (r u v : List ℕ) → Result Reduction Refusal → Type 0
Answered call r u v x = Promise reduction call (answer_number x) (answer_place x) (outcome_of r u v x)
