-- The greatest of all coefficients, by which they are asked at once.
use mathlib.Core.List.{List, [], ◌∷◌}
use Prim.Native.Nat.{ℕ, zero, suc, ◌<◌}
use native.Mathlib.Omega.{arith}
use lib.ListN.{length, get_or}
use Rattle.std.specs.Prelude.{max}
use Rattle.std.specs.List.{fold}

-- the same of one more in front
below-more : (p x : ℕ) (l : List ℕ) → x < p → ((i : ℕ) → i < length l → get_or l i 0 < p) → (i : ℕ) → i < suc (length l) → get_or (x ∷ l) i 0 < p
below-more p x l first rest zero h = first
below-more p x l first rest (suc i) h = rest i (omega arith)

-- where it is below p, so is each of them, and what it began with
pub greatest-below : (p : ℕ) (l : List ℕ) (g : ℕ) → fold max g l < p → (g < p) × ((i : ℕ) → i < length l → get_or l i 0 < p)
greatest-below p [] g h = (h, λ i k. absurd (omega arith))
greatest-below p (x ∷ l) g h =
    let rest = greatest-below p l (max g x) h in
    (omega (arith, rest.0), below-more p x l (omega (arith, rest.0)) rest.1)
