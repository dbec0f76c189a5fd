-- The number and the place of each refusal, and of an answer that may be one, in the refusal tables (file Refused).
use Rattle.std.specs.Prelude.{List, ℕ, ⊤, Result, Ok, Err}
use Rattle.matrix_promises.specs.Answering.{Rule, Told}
use Rattle.matrix_refusals.specs.declared.Refusal.{Refusal}
use Rattle.matrix_refusals.specs.declared.Refusal.TheVariants.{Modulus, Shape, Degree, Square, Length, Coefficient}

abbrev pub number_of : Refusal → ℕ
number_of Modulus = 1
number_of Shape = 2
number_of Degree = 3
number_of Square = 4
number_of (Length k) = 5
number_of (Coefficient i) = 6

abbrev pub place_of : Refusal → ℕ
place_of Modulus = 0
place_of Shape = 0
place_of Degree = 0
place_of Square = 0
place_of (Length k) = k
place_of (Coefficient i) = i

-- those of an answer, which has an error that is a refusal: both are 0 where it has none
abbrev pub answer_number : {A : Type 0} → Result A Refusal → ℕ
answer_number (Ok done) = 0
answer_number (Err x) = number_of x

abbrev pub answer_place : {A : Type 0} → Result A Refusal → ℕ
answer_place (Ok done) = 0
answer_place (Err x) = place_of x

-- what checks say, by the rules that they look at
abbrev pub Verdict : (table : List Rule) → Result ⊤ Refusal → Type 0
Verdict table c = Told table (answer_number c) (answer_place c)
