-- When a call is refused: the refusal table, and what it speaks of.
use Rattle.std.specs.Prelude.{◌≡◌, ◌≢◌, List, [], ◌∷◌, ℕ, ◌+◌, ◌*◌, ◌≤◌, ◌<◌, length, get_or}
use Rattle.theory_lists.specs.First.{First}
use Rattle.theory_algebra.specs.Modulus.{Accepted}
use Rattle.theory_lists.specs.Coefficients.{Coefficients}
use Rattle.matrix_promises.specs.Answering.{Rule}

-- "rows n, columns m: 1 to 8 each"
pub record InShape (n m : ℕ) : Type 0 where
  pub rows : 1 ≤ n
  pub rows_most : n ≤ 8
  pub columns : 1 ≤ m
  pub columns_most : m ≤ 8

-- "degree limit d: 0 to 63"
abbrev pub InDegree : ℕ → Type 0
InDegree d = d ≤ 63

-- the numbers that a call is given are all in range
pub record Numbers (p n m d : ℕ) : Type 0 where
  pub modulus : Accepted p
  pub shape : InShape n m
  pub degree : InDegree d

-- the places that the buffers should have, "in the order input, result, U, V"
abbrev pub reduction_sizes : ℕ → ℕ → ℕ → List ℕ
reduction_sizes n m d = n * (m * (d + 1)) ∷ n * (m * (d + 1)) ∷ n * (n * (n * (d + 1))) ∷ n * (n * (d + 1)) ∷ []

-- "The single step takes input and result only."
abbrev pub step_sizes : ℕ → ℕ → ℕ → List ℕ
step_sizes n m d = n * (m * (d + 1)) ∷ n * (m * (d + 1)) ∷ []

-- "for the determinant, input, result", which has n·d+1 places
abbrev pub determinant_sizes : ℕ → ℕ → ℕ → List ℕ
determinant_sizes n m d = n * (m * (d + 1)) ∷ (n * d + 1) ∷ []

-- buffer k, counted from 1, is the first whose length is not the one wanted
pub record FirstWrong (given wanted : List ℕ) (k : ℕ) : Type 0 where
  pub at : ℕ
  pub counted : k ≡ at + 1
  pub wrong : get_or given at 0 ≢ get_or wanted at 0
  pub before : (j : ℕ) → j < at → get_or given j 0 ≡ get_or wanted j 0

-- i is the index of the first coefficient that is p or more, or the number of places where there is none
abbrev pub FirstHigh : (p : ℕ) (a : List ℕ) (i : ℕ) → Type 0
FirstHigh p a = First (length a) (λ j. p ≤ get_or a j 0)

-- the place 0
abbrev pub Zero : ℕ → Type 0
Zero place = place ≡ 0

-- The rules of the refusal table that speak of p, n, m and d, each with its number, what has to hold lest it is returned, and
-- the place; and then further rules.
abbrev pub number_rules : (p n m d : ℕ) (further : List Rule) → List Rule
number_rules p n m d further =
    -- "p is not a prime in 2 to 65,521", place 0
    (1, Accepted p, Zero) ∷
    -- "n or m outside 1 to 8", place 0
    (2, InShape n m, Zero) ∷
    -- "d outside 0 to 63", place 0
    (3, InDegree d, Zero) ∷
    further

-- "determinant wanted, n and m differ", place 0
abbrev pub square_rule : (n m : ℕ) → Rule
square_rule n m = (4, n ≡ m, Zero)

-- "a buffer's length is not the table's", place "the first such buffer, counted from 1": `given` are the lengths of the buffers,
-- `wanted` those that they should have
abbrev pub length_rule : (given wanted : List ℕ) → Rule
length_rule given wanted = (5, given ≡ wanted, FirstWrong given wanted)

-- "an input coefficient is p or more", place "its index, counted from 0, first one": a is the input
abbrev pub coefficient_rule : (p : ℕ) (a : List ℕ) → Rule
coefficient_rule p a = (6, Coefficients p a, FirstHigh p a)

-- The refusal table of a service whose result is a matrix: the reduction, the single step and the Popov form.
abbrev pub matrix_table : (p n m d : ℕ) (given wanted a : List ℕ) → List Rule
matrix_table p n m d given wanted a = number_rules p n m d (length_rule given wanted ∷ coefficient_rule p a ∷ [])

-- The refusal table of the determinant.
abbrev pub determinant_table : (p n m d : ℕ) (given a : List ℕ) → List Rule
determinant_table p n m d given a =
    number_rules p n m d (square_rule n m ∷ length_rule given (determinant_sizes n m d) ∷ coefficient_rule p a ∷ [])
