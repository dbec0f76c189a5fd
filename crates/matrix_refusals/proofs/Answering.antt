-- The numbers of calls that are refused, and the answers to calls that are done.
use mathlib.Core.List.{List}
use Prim.Native.Nat.{◌<◌}
use native.Mathlib.Omega.{arith}
use Rattle.matrix_refusals.specs.Number.{number_of}
use Rattle.matrix_promises.specs.Answering.{Rule, Told, Answering}
use Rattle.matrix_refusals.specs.declared.Refusal.{Refusal}
use Rattle.matrix_refusals.specs.declared.Refusal.TheVariants.{Modulus, Shape, Degree, Square, Length, Coefficient}

-- no refusal has the number 0
pub refusal-number : (x : Refusal) → 0 < number_of x
refusal-number Modulus = omega arith
refusal-number Shape = omega arith
refusal-number Degree = omega arith
refusal-number Square = omega arith
refusal-number (Length k) = omega arith
refusal-number (Coefficient i) = omega arith

-- a call is answered by 0 where the checks find nothing and the work is done
pub answer-done : {table : List Rule} {Outcome : Type 0} {outcome kept : Outcome} {Done : Type 0} → Told table 0 0 → Done
    → Answering table 0 0 outcome kept Done
answer-done told done = record { told = told; refused = λ some. absurd (omega arith); done = λ none. done }
