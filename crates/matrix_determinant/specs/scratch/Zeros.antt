-- Room that holds nothing yet.
use Rattle.std.specs.Prelude.{◌≡◌, List, ℕ, length, get_or}

-- so many places, each 0
abbrev pub Zeros : (size : ℕ) (x : List ℕ) → Type 0
Zeros size x = (length x ≡ size) × ((i : ℕ) → get_or x i 0 ≡ 0)
