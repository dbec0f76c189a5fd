-- Examples, and what it means that the definitions give their values.
use Rattle.std.specs.Prelude.{◌≡◌, ◌≢◌, List, [], ◌∷◌, ℕ}
use Rattle.matrix_promises.specs.Answering.{Rule, Told}
use Rattle.matrix_promises.specs.Refused.{reduction_sizes, step_sizes, determinant_sizes, matrix_table, determinant_table}
use Rattle.matrix_promises.specs.Determinant.{IsDeterminant}
use Rattle.examples.specs.Answers.{Answers}

-- what an example may name of the answers: of the reduction the rank, the count, R, U and V, and of the Popov form the two counts and P
pub data Name : Type 0 where
  Rank : Name
  Steps : Name
  Result : Name
  Transform : Name
  Inverse : Name
  FirstKind : Name
  SecondKind : Name
  PopovForm : Name

-- the list that has it; a number stands alone
abbrev pub named : {p n m d : ℕ} {a : List ℕ} → Answers p n m d a → Name → List ℕ
named x Rank = x.weak.rank ∷ []
named x Steps = x.weak.count ∷ []
named x Result = x.weak.r
named x Transform = x.weak.u
named x Inverse = x.weak.v
named x FirstKind = x.popov.first ∷ []
named x SecondKind = x.popov.second ∷ []
named x PopovForm = x.popov.r

-- An example tells p, n, m, d and the input a, and what is wanted of them: some of the answers, or the determinant of a square matrix.
pub data Example : Type 0 where
  answers : (p n m d : ℕ) (a : List ℕ) (values : List (Name × List ℕ)) → Example
  determinant : (p n d : ℕ) (a l : List ℕ) → Example

-- P is true of every element
abbrev pub Every : {A : Type 0} → (A → Type 0) → List A → Type 0
Every P [] = Unit
Every P (x ∷ l) = P x × Every P l

-- the definitions give the values of an example
abbrev pub Gives : Example → Type 0
Gives (answers p n m d a values) = (x : Answers p n m d a) × Every (λ (v : Name × List ℕ). named x v.0 ≡ v.1) values
Gives (determinant p n d a l) = IsDeterminant p n d a l

-- ## Refusals

-- the services, of which the Popov form has the refusal table of the reduction
pub data Kind : Type 0 where
  Reduction : Kind
  SingleStep : Kind
  Determinant : Kind

-- A call of a service: p, n, m, d and the input a are handed in, and buffers of the lengths `given`, the input's among them. This is
-- the refusal table by which it is answered.
abbrev pub table_of : Kind → (p n m d : ℕ) (given a : List ℕ) → List Rule
table_of Reduction p n m d given a = matrix_table p n m d given (reduction_sizes n m d) a
table_of SingleStep p n m d given a = matrix_table p n m d given (step_sizes n m d) a
table_of Determinant p n m d given a = determinant_table p n m d given a

-- it returns this number and this place
abbrev pub Returns : Kind → (p n m d : ℕ) (given a : List ℕ) (number place : ℕ) → Type 0
Returns service p n m d given a number place = Told (table_of service p n m d given a) number place

-- whatever number it returns, it is not this one
abbrev pub DoesNotReturn : Kind → (p n m d : ℕ) (given a : List ℕ) (number : ℕ) → Type 0
DoesNotReturn service p n m d given a number = (other place : ℕ) → Returns service p n m d given a other place → other ≢ number

-- its buffers have the lengths that they should have; a matrix whose determinant is wanted is square
abbrev pub Sized : Kind → (n m d : ℕ) (given : List ℕ) → Type 0
Sized Reduction n m d given = given ≡ reduction_sizes n m d
Sized SingleStep n m d given = given ≡ step_sizes n m d
Sized Determinant n m d given = (n ≡ m) × (given ≡ determinant_sizes n m d)
