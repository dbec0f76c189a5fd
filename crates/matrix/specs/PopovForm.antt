-- The answer of the Popov form's service, and what it promises.
use Rattle.std.specs.Prelude.{List, ℕ, Result}
use Rattle.std.specs.Result.{result_unwrap_or}
use Rattle.matrix_promises.specs.Service.{Promise}
use Rattle.matrix_promises.specs.Services.{WholeCall, PopovOutcome, popov_form}
use Rattle.matrix_refusals.specs.Number.{answer_number, answer_place}
use Rattle.matrix_refusals.specs.declared.Refusal.{Refusal}
use Rattle.matrix.specs.declared.popov_form.PopovCounts.{PopovCounts}

-- the outcome of an answer, where result, U and V hold r, u and v at exit: "Rank and counts in a refusal are 0"
abbrev pub popov_outcome_of : (r u v : List ℕ) → Result PopovCounts Refusal → PopovOutcome
popov_outcome_of r u v x =
    let s = result_unwrap_or x (record { rank = 0; first = 0; second = 0 }) in
    record { rank = s.rank; first = s.first; second = s.second; r = r; u = u; v = v }

-- the promise of the Popov form, of an answer
abbrev pub PopovAnswered : (call : WholeCall) (r u v : List ℕ) → Result PopovCounts Refusal → Type 0
PopovAnswered call r u v x = Promise popov_form call (answer_number x) (answer_place x) (popov_outcome_of r u v x)
