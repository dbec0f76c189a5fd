-- What the parts of the checks say of the whole.
use mathlib.Core.Path.{◌≡◌, refl, ap}
use mathlib.Core.List.{List}
use Prim.Native.Nat.{ℕ, ◌+◌}
use native.Mathlib.Omega.{arith}
use lib.ListN.{get_or}
use Rattle.matrix_buffers.specs.Bounds.{Bounds}
use Rattle.matrix_promises.specs.Refused.{Numbers, FirstWrong}

-- lengths of which one is wrong are not those that are wanted
not-lengths : {given wanted : List ℕ} {k : ℕ} → FirstWrong given wanted k → ¬ (given ≡ wanted)
not-lengths first same = first.wrong (ap (λ (l : List ℕ). get_or l first.at 0) same)

-- the refusal for a buffer's length
pub wrong-length : {given wanted : List ℕ} {k : ℕ} → FirstWrong given wanted k
    → (¬ (given ≡ wanted)) × (◌≡◌ {A = ℕ} 5 5) × FirstWrong given wanted k
wrong-length first = (not-lengths first, refl, first)

-- where the numbers are in range, so are n, m and d
pub in_bounds : {p n m d : ℕ} → Numbers p n m d → Bounds n m (d + 1)
in_bounds h = record {
  rows = omega (arith, h.shape.rows);
  rows_most = h.shape.rows_most;
  columns = omega (arith, h.shape.columns);
  columns_most = h.shape.columns_most;
  places = omega arith;
  places_most = omega (arith, h.degree);
}
