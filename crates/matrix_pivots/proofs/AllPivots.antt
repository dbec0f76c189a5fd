-- The pivot of one row changes.
use mathlib.Core.Logic.{◌≢◌}
use mathlib.Core.List.{List}
use Prim.Native.Nat.{ℕ, ◌<◌}
use native.Mathlib.Omega.{arith}
use lib.ListN.{length, set}
use Rattle.std.proofs.lemmas.Grind.{common_steps}
use Rattle.matrix_pivots.specs.declared.pivot.Pivot.{Pivot}
use Rattle.matrix_pivots.specs.Pivot.{index_at, degree_at, IsPivotOf, Pivots}

-- the pivot of row l is found, and those of the other rows stand
pub pivots-set : {n m l : ℕ} {v : ℕ → ℕ} (pivots : List Pivot) (p : Pivot) → l < length pivots
    → IsPivotOf m (v l) p.index.0 p.degree.0
    → ((i : ℕ) → i < n → i ≢ l → IsPivotOf m (v i) (index_at pivots i) (degree_at pivots i)) → Pivots n m v (set pivots l p)
pivots-set pivots p fits is others = record { row = λ i h. grind (arith, common_steps, others i h) }
