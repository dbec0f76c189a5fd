-- The excess of a row over another bounds its degree in that row's pivot column, and is the least that does.
use mathlib.Core.Path.{◌≡◌}
use mathlib.Core.Logic.{◌≢◌}
use Prim.Native.Nat.{ℕ, suc, ◌+◌, ◌-◌, ◌≤◌, ◌<◌}
use native.Mathlib.Omega.{arith}
use native.Mathlib.Nat as N
use Rattle.theory_algebra.specs.Field.{Field}
use Rattle.theory_algebra.specs.Polynomial.{Below}
use Rattle.theory_algebra.proofs.Cases.{case-le}
use Rattle.theory_lattice.specs.Row.{Row, coef, Bounded}
use Rattle.theory_reduction.specs.Pivot.{top}
use Rattle.theory_reduction.proofs.Pivot.{Top, top-is}
use Rattle.theory_popov.specs.SecondKind.{pivot_of, excess, excessive}

module _ {F : Type 0} (K : Field F) (m size : ℕ) (f g : Row F) where
  abbrev column : ℕ → F
  column = f (pivot_of K m size g).col

  abbrev degree : ℕ
  degree = (pivot_of K m size g).deg

  abbrev x : ℕ
  x = excess K m size f g

  found : Top K size column (top K size column)
  found = top-is K size column

  pub excess-size : x ≤ size
  unfolding excess
  excess-size = omega (arith, found.within)

  pub excess-least : (a : ℕ) → Below K.ring column (a + degree) → x ≤ a
  unfolding excess
  excess-least a h = case-le (suc (a + degree)) (top K size column) (λ l. absurd (found.entry (omega arith) (h _ (omega arith)))) (λ l. omega arith)

  pub excess-below : 0 < m → Bounded K.ring m size f → Below K.ring column (x + degree)
  unfolding excess
  excess-below columns b k l = case-le size k (b _ (N.mod-lt _ columns) k) (found.beyond k (omega arith))

  -- the term by which the row has its excess
  pub excess-term : 0 < x → coef f (excessive K m size f g) ≢ K.ring.𝟘
  unfolding excess
  excess-term p = let e : top K size column - degree - 1 + degree ≡ top K size column - 1 = omega arith in rw e (found.entry (omega arith))
