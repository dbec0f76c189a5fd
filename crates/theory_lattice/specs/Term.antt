-- The terms of a row of polynomials, and the orders of terms that multiplication by x respects.
use Rattle.std.specs.Prelude.{◌≡◌, ◌⊎◌, ℕ, ◌+◌, ◌<◌}

-- x^deg in column col; columns are counted from 0
pub record Term : Type 0 where
  pub col : ℕ
  pub deg : ℕ

abbrev pub term : ℕ → ℕ → Term
term c k = record { col = c; deg = k }

-- x^e times a term
abbrev pub up : ℕ → Term → Term
up e t = term t.col (e + t.deg)

-- a strict order of terms, total on those of m columns: in one column a greater degree is greater,
-- and multiplication by x^e keeps the order
pub record TermOrder (m : ℕ) : Type 1 where
  pub lt : Term → Term → Type 0
  pub trans : (s t u : Term) → lt s t → lt t u → lt s u
  pub irrefl : (t : Term) → ¬ (lt t t)
  pub total : (s t : Term) → s.col < m → t.col < m → lt s t ⊎ ((s ≡ t) ⊎ lt t s)
  pub grow : (c j k : ℕ) → c < m → j < k → lt (term c j) (term c k)
  pub shift : (e : ℕ) (s t : Term) → lt s t → lt (up e s) (up e t)
