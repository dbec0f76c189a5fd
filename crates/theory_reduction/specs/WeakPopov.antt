-- The weak Popov form.
use Rattle.std.specs.Prelude.{◌≢◌, ℕ, ◌<◌}
use Rattle.theory_algebra.specs.Ring.{CommRing}
use Rattle.theory_lattice.specs.Term.{Term}
use Rattle.theory_lattice.specs.Row.{Row}
use Rattle.theory_reduction.specs.Pivot.{IsPivot}

-- "Weak Popov form: no two non-zero rows have the same pivot index."
abbrev pub WeakPopov : {F : Type 0} → CommRing F → ℕ → ℕ → (ℕ → Row F) → Type 0
WeakPopov R n m M = (i j : ℕ) → i < n → j < n → i ≢ j → (s t : Term) → IsPivot R m s (M i) → IsPivot R m t (M j) → s.col ≢ t.col
