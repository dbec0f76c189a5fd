-- A slice read as a polynomial over Z/p.
use Rattle.std.specs.Prelude.{ℕ, ◌≡◌, List, get_or}
use Rattle.theory_algebra.specs.Residue.{Zp}

-- l holds f: the number of each coefficient stands at its place, and f has no term past the places
pub record Holds (p : ℕ) (l : List ℕ) (f : ℕ → Zp p) : Type 0 where
  pub at : (k : ℕ) → get_or l k 0 ≡ (f k).val
