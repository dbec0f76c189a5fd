-- What the determinant promises.
use Rattle.std.specs.Prelude.{List, ℕ, ⊤, Result}
use Rattle.matrix_promises.specs.Service.{Promise}
use Rattle.matrix_promises.specs.Services.{ShortCall, determinant}
use Rattle.matrix_refusals.specs.Number.{answer_number, answer_place}
use Rattle.matrix_refusals.specs.declared.Refusal.{Refusal}

-- the promise of the determinant, of an answer, where the result holds r at exit
abbrev pub DeterminantAnswered : (call : ShortCall) (r : List ℕ) → Result ⊤ Refusal → Type 0
DeterminantAnswered call r x = Promise determinant call (answer_number x) (answer_place x) r
