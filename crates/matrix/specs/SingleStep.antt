-- The answer of the single step, and what it promises.
use Rattle.std.specs.Prelude.{List, ℕ, Result}
use Rattle.std.specs.Result.{result_unwrap_or}
use Rattle.matrix_promises.specs.Service.{Promise}
use Rattle.matrix_promises.specs.Services.{ShortCall, StepOutcome, single_step}
use Rattle.matrix_refusals.specs.Number.{answer_number, answer_place}
use Rattle.matrix_refusals.specs.declared.Refusal.{Refusal}

-- the outcome of an answer, which has the count, where the result holds r at exit: "Rank and counts in a refusal are 0"
abbrev pub step_outcome_of : (r : List ℕ) → Result ℕ Refusal → StepOutcome
step_outcome_of r x = record { count = result_unwrap_or x 0; r = r }

-- the promise of the single step, of an answer
abbrev pub StepAnswered : (call : ShortCall) (r : List ℕ) → Result ℕ Refusal → Type 0
StepAnswered call r x = Promise single_step call (answer_number x) (answer_place x) (step_outcome_of r x)
