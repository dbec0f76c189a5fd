-- Two answers that the promise of a service allows are equal, and so is every buffer at exit.
use mathlib.Core.Path.{◌≡◌, refl}
use mathlib.Core.List.{List}
use Prim.Native.Nat.{ℕ}
use Rattle.matrix_promises.specs.Service.{Service, Promise}
use Rattle.matrix_promises.specs.Services.{WholeCall, ShortCall, ReductionOutcome, StepOutcome, PopovOutcome}
use Rattle.matrix_promises.specs.Demands.{OneAnswer}
use Rattle.matrix_promises.proofs.Demands.{demand-1}
use Rattle.matrix_refusals.proofs.Unique.{Said, said-refused, said-unique}
use Rattle.matrix.specs.Reduction.{outcome_of, Answered}
use Rattle.matrix.specs.SingleStep.{step_outcome_of, StepAnswered}
use Rattle.matrix.specs.PopovForm.{popov_outcome_of, PopovAnswered}
use Rattle.matrix.specs.Determinant.{DeterminantAnswered}
use Rattle.matrix_refusals.specs.Number.{answer_number, answer_place}
use Rattle.matrix_refusals.specs.declared.Refusal.{Refusal}
use Rattle.matrix.specs.declared.reduction.Reduction.{Reduction}
use Rattle.matrix.specs.declared.popov_form.PopovCounts.{PopovCounts}
use Rattle.std.specs.Prelude.{Result, Ok, Err}

-- number, place and outcome together
told_same : {S : Service} (h : OneAnswer S) {call : S.Call} {k i l j : ℕ} {x y : S.Outcome} → Promise S call k i x → Promise S call l j y
    → ◌≡◌ {A = ℕ × ℕ × S.Outcome} (k, i, x) (l, j, y)
told_same h f g = let (numbers, places, outcomes) = h.one _ _ _ _ _ _ _ f g in λ s. (numbers s, places s, outcomes s)

-- An answer is what its number, its place and its outcome say: so two answers that are told by the same numbers are equal.

answer-said : {r u v : List ℕ} (x : Result Reduction Refusal)
    → Said {Outcome = ReductionOutcome} Err (λ o. Ok (record { rank = o.rank; count = o.count; rows = o.rows }))
    (answer_number x, answer_place x, outcome_of r u v x) x
answer-said (Ok x) = record { is = refl }
answer-said (Err x) = said-refused x

pub answered-unique : {call : WholeCall} {r₁ u₁ v₁ r₂ u₂ v₂ : List ℕ} (x y : Result Reduction Refusal)
    → Answered call r₁ u₁ v₁ x → Answered call r₂ u₂ v₂ y
    → ◌≡◌ {A = Result Reduction Refusal × ReductionOutcome} (x, outcome_of r₁ u₁ v₁ x) (y, outcome_of r₂ u₂ v₂ y)
answered-unique x y f g =
    let same = told_same demand-1.0 f g in λ i. (said-unique (answer-said x) (answer-said y) same i, (same i).2)

step-answer-said : {r : List ℕ} (x : Result ℕ Refusal)
    → Said {Outcome = StepOutcome} Err (λ o. Ok o.count) (answer_number x, answer_place x, step_outcome_of r x) x
step-answer-said (Ok count) = record { is = refl }
step-answer-said (Err x) = said-refused x

pub step-answered-unique : {call : ShortCall} {r₁ r₂ : List ℕ} (x y : Result ℕ Refusal) → StepAnswered call r₁ x → StepAnswered call r₂ y
    → ◌≡◌ {A = Result ℕ Refusal × StepOutcome} (x, step_outcome_of r₁ x) (y, step_outcome_of r₂ y)
step-answered-unique x y f g =
    let same = told_same demand-1.1 f g in λ i. (said-unique (step-answer-said x) (step-answer-said y) same i, (same i).2)

popov-answer-said : {r u v : List ℕ} (x : Result PopovCounts Refusal)
    → Said {Outcome = PopovOutcome} Err (λ o. Ok (record { rank = o.rank; first = o.first; second = o.second }))
    (answer_number x, answer_place x, popov_outcome_of r u v x) x
popov-answer-said (Ok x) = record { is = refl }
popov-answer-said (Err x) = said-refused x

pub popov-answered-unique : {call : WholeCall} {r₁ u₁ v₁ r₂ u₂ v₂ : List ℕ} (x y : Result PopovCounts Refusal)
    → PopovAnswered call r₁ u₁ v₁ x → PopovAnswered call r₂ u₂ v₂ y
    → ◌≡◌ {A = Result PopovCounts Refusal × PopovOutcome} (x, popov_outcome_of r₁ u₁ v₁ x) (y, popov_outcome_of r₂ u₂ v₂ y)
popov-answered-unique x y f g =
    let same = told_same demand-1.2 f g in λ i. (said-unique (popov-answer-said x) (popov-answer-said y) same i, (same i).2)

determinant-answer-said : {r : List ℕ} (x : Result Unit Refusal) → Said {Outcome = List ℕ} Err (λ o. Ok tt) (answer_number x, answer_place x, r) x
determinant-answer-said (Ok done) = record { is = refl }
determinant-answer-said (Err x) = said-refused x

pub determinant-answered-unique : {call : ShortCall} {r₁ r₂ : List ℕ} (x y : Result Unit Refusal)
    → DeterminantAnswered call r₁ x → DeterminantAnswered call r₂ y → ◌≡◌ {A = Result Unit Refusal × List ℕ} (x, r₁) (y, r₂)
determinant-answered-unique x y f g =
    let same = told_same demand-1.3 f g in λ i. (said-unique (determinant-answer-said x) (determinant-answer-said y) same i, (same i).2)
