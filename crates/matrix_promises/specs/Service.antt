-- A service, and what it promises.
use Rattle.std.specs.Prelude.{List, ℕ}
use Rattle.matrix_promises.specs.Answering.{Rule, Answering}

-- A service is given by what a call is handed in, by its outcome, which is what it returns beside a number and a place and what its
-- buffers hold at exit, by its refusal table, by what a refused call leaves, and by what is true of the outcome of a call that is done.
pub record Service : Type 1 where
  pub Call : Type 0
  pub Outcome : Type 0
  pub table : Call → List Rule
  pub kept : Call → Outcome
  pub Done : Call → Outcome → Type 0

-- what it promises of a call: of the number and the place that it returns, and of its outcome
abbrev pub Promise : (S : Service) (call : S.Call) (number place : ℕ) (outcome : S.Outcome) → Type 0
Promise S call number place outcome = Answering (S.table call) number place outcome (S.kept call) (S.Done call outcome)
