-- Numbers that count through a grid: c lines of w each, and t of the next.
use mathlib.Core.Path.{◌≡◌, ap, ◌∙◌}
use Prim.Native.Nat.{ℕ, suc, ◌+◌, ◌-◌, ◌*◌, ◌≤◌, ◌<◌}
use native.Mathlib.Nat.{suc-mul, mul-le-mul_right}
use native.Mathlib.Omega.{arith}

-- one line less
pub line-less : (c w : ℕ) → 0 < c → c * w ≡ (c - 1) * w + w
line-less c w l = let e : c ≡ suc (c - 1) = omega arith in ap (λ (x : ℕ). x * w) e ∙ suc-mul (c - 1) w

-- line c ends before m lines do
pub line-end : (c m w : ℕ) → c < m → c * w + w ≤ m * w
line-end c m w h = omega (arith, suc-mul c w, mul-le-mul_right w h)

-- so does each of its places
pub within : (c t m w : ℕ) → c < m → t < w → c * w + t < m * w
within c t m w h k = omega (arith, line-end c m w h)

-- a line is no longer than all of them
pub one_line : (m w : ℕ) → 0 < m → w ≤ m * w
one_line m w h = omega (arith, line-end 0 m w h)
