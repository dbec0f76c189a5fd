-- Polynomials as lists of their coefficients, constant term first, all places present.
use Rattle.std.specs.Prelude.{ℕ, ◌-◌, ◌≡◌, List, ℤ, pos, length, get_or}
use Rattle.std.proofs.Math.IntN.{pred_ℤ}
use Rattle.theory_lists.specs.Last.{last_nonzero}

-- the number of places up to the last coefficient that is not zero: one more than the degree, and 0 for the zero polynomial
abbrev pub used_places : List ℕ → ℕ
used_places l = last_nonzero (length l) (λ i. get_or l i 0)

-- "The degree of the zero polynomial counts as -1 here."
abbrev pub degree_of : List ℕ → ℤ
degree_of l = pred_ℤ (pos (used_places l))

-- the coefficient at the degree, and 0 for the zero polynomial
abbrev pub leading_of : List ℕ → ℕ
leading_of l = get_or l (used_places l - 1) 0

-- the same polynomial: equal coefficients at every degree, a place that is not there counting as 0
pub record SamePolynomial (a b : List ℕ) : Type 0 where
  pub same : (i : ℕ) → get_or a i 0 ≡ get_or b i 0
