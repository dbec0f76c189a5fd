-- Lists of residues, by their numbers.
use Rattle.std.specs.Prelude.{ℕ, ◌<◌, List, length, get_or}

-- "Coefficients are 16-bit numbers below p."
pub record Coefficients (p : ℕ) (l : List ℕ) : Type 0 where
  pub below : (i : ℕ) → i < length l → get_or l i 0 < p
