-- A call has one answer only: the first rule of a table that applies is one, and so is what a refusal leaves behind.
use mathlib.Core.Path.{◌≡◌, refl, sym, ap, ◌∙◌}
use mathlib.Core.List.{List, [], ◌∷◌}
use Prim.Native.Nat.{ℕ}
use lib.ListN.{get_or}
use Rattle.matrix_refusals.specs.Number.{number_of, place_of, answer_number, answer_place}
use Rattle.matrix_promises.specs.Answering.{Rule}
use Rattle.matrix_refusals.specs.Number.{Verdict}
use Rattle.matrix_promises.specs.Refused.{number_rules, coefficient_rule, matrix_table, determinant_table}
use Rattle.matrix_refusals.specs.declared.Refusal.{Refusal}
use Rattle.matrix_refusals.specs.declared.Refusal.TheVariants.{Modulus, Shape, Degree, Square, Length, Coefficient}
use Rattle.std.specs.Prelude.{Result, Ok, Err}
use Rattle.matrix_promises.proofs.Tables.{Decides, decides, high_one, with-numbers, matrix-decided, determinant-decided}

-- the answer that has a number, a place and an outcome: done where the number is 0, else refused
abbrev answer_at : {Answer Outcome : Type 0} → (Refusal → Answer) → (Outcome → Answer) → ℕ × ℕ × Outcome → Answer
answer_at refused done (number, place, outcome) = get_or
    (done outcome ∷ refused Modulus ∷ refused Shape ∷ refused Degree ∷ refused Square ∷ refused (Length place) ∷ refused (Coefficient place) ∷ [])
    number (done outcome)

-- x is the answer that its numbers say
pub record Said {Answer Outcome : Type 0} (refused : Refusal → Answer) (done : Outcome → Answer) (numbers : ℕ × ℕ × Outcome) (x : Answer) : Type 0 where
  pub is : answer_at refused done numbers ≡ x

-- so is a refusal, by its number and its place
pub said-refused : {Answer Outcome : Type 0} {refused : Refusal → Answer} {done : Outcome → Answer} {outcome : Outcome} (x : Refusal)
    → Said refused done (number_of x, place_of x, outcome) (refused x)
said-refused Modulus = record { is = refl }
said-refused Shape = record { is = refl }
said-refused Degree = record { is = refl }
said-refused Square = record { is = refl }
said-refused (Length k) = record { is = refl }
said-refused (Coefficient i) = record { is = refl }

-- so an answer is determined by its numbers
pub said-unique : {Answer Outcome : Type 0} {refused : Refusal → Answer} {done : Outcome → Answer} {s t : ℕ × ℕ × Outcome} {x y : Answer}
    → Said refused done s x → Said refused done t y → s ≡ t → x ≡ y
said-unique {refused = refused} {done} f g same = sym f.is ∙ ap (answer_at refused done) same ∙ g.is

-- so is a refusal
pub refusal-unique : (x y : Refusal) → number_of x ≡ number_of y → place_of x ≡ place_of y → x ≡ y
refusal-unique x y numbers places = said-unique {Outcome = Unit} {refused = λ z. z} {done = λ outcome. Modulus}
    (said-refused x) (said-refused y) (λ i. (numbers i, places i, tt))

-- what the checks say is an answer too
check-said : (x : Result Unit Refusal) → Said {Outcome = Unit} Err Ok (answer_number x, answer_place x, tt) x
check-said (Ok done) = record { is = refl }
check-said (Err x) = said-refused x

-- so are what checks say by rules that allow one number and one place
pub verdict-unique : (table : List Rule) → Decides table → (x y : Result Unit Refusal) → Verdict table x → Verdict table y
    → x ≡ y
verdict-unique table decided x y f g =
    let (numbers, places) = decided _ _ _ _ f g in said-unique (check-said x) (check-said y) (λ i. (numbers i, places i, tt))

-- ## The checks: two answers that the promise allows are equal

-- of `check_numbers`
pub numbers-checked-unique : (p n m d : ℕ) (x y : Result Unit Refusal) → Verdict (number_rules p n m d []) x
    → Verdict (number_rules p n m d []) y → x ≡ y
numbers-checked-unique p n m d = verdict-unique (number_rules p n m d []) (with-numbers [] tt)

-- of `check_coefficients`
pub coefficients-checked-unique : (p : ℕ) (a : List ℕ) (x y : Result Unit Refusal) → Verdict (coefficient_rule p a ∷ []) x
    → Verdict (coefficient_rule p a ∷ []) y → x ≡ y
coefficients-checked-unique p a = verdict-unique (coefficient_rule p a ∷ []) (decides (coefficient_rule p a ∷ []) (high_one p a, tt))

-- of `check_step` and `check_reduction`: `given` and `wanted` are the lengths of their buffers
pub matrix-checked-unique : (p n m d : ℕ) (given wanted a : List ℕ) (x y : Result Unit Refusal)
    → Verdict (matrix_table p n m d given wanted a) x → Verdict (matrix_table p n m d given wanted a) y → x ≡ y
matrix-checked-unique p n m d given wanted a = verdict-unique (matrix_table p n m d given wanted a) matrix-decided

-- of `check_determinant`
pub determinant-checked-unique : (p n m d : ℕ) (given a : List ℕ) (x y : Result Unit Refusal)
    → Verdict (determinant_table p n m d given a) x → Verdict (determinant_table p n m d given a) y → x ≡ y
determinant-checked-unique p n m d given a = verdict-unique (determinant_table p n m d given a) determinant-decided
