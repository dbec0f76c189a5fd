-- What every service promises of its answer.
use Rattle.std.specs.Prelude.{◌≡◌, ◌⊎◌, List, [], ◌∷◌, ℕ, ◌<◌}

-- a rule of a refusal table: a number, what has to hold lest it is returned, and which place is returned with it
abbrev pub Rule : Type 1
Rule = ℕ × Type 0 × (ℕ → Type 0)

-- "Checks run in this order and the first that applies is the answer. It is given then and never otherwise." Where none
-- applies the number is 0 and so is the place.
abbrev pub Told : (table : List Rule) (number place : ℕ) → Type 0
Told [] number place = (number ≡ 0) × (place ≡ 0)
Told ((k, right, at) ∷ rules) number place = ((¬ right) × (number ≡ k) × at place) ⊎ (right × Told rules number place)

-- A call returns a number and a place. Its outcome is what else it returns, and what its buffers hold at exit: that is
-- `kept` where it is refused, and Done tells what is true of it else.
pub record Answering (table : List Rule) (number place : ℕ) {Outcome : Type 0} (outcome kept : Outcome) (Done : Type 0) : Type 0 where
  -- the number and the place are the table's
  pub told : Told table number place
  -- "Rank and counts in a refusal are 0, the row list is empty, and every buffer holds what it held at entry."
  pub refused : 0 < number → outcome ≡ kept
  -- "0 | done | 0"
  pub done : number ≡ 0 → Done
