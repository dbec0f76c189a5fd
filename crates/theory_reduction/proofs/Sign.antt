-- The laws of the sign, by which chosen rows are counted.
use mathlib.Core.Path.{◌≡◌}
use Prim.Native.Nat.{ℕ, zero, suc, ◌≤◌, ◌<◌}
use native.Mathlib.Omega.{arith}
use Rattle.theory_reduction.specs.Rank.{sign}

pub sign-most : (v : ℕ) → sign v ≤ 1
sign-most zero = omega arith
sign-most (suc v) = omega arith

pub sign_pos : (v : ℕ) → 0 < sign v → 0 < v
sign_pos zero l = l
sign_pos (suc v) l = omega arith

pub sign_le : (v w : ℕ) → (0 < v → 0 < w) → sign v ≤ sign w
sign_le zero w h = omega arith
sign_le (suc v) zero h = absurd (omega (arith, h (omega arith)))
sign_le (suc v) (suc w) h = omega arith

pub sign-lt : (v w : ℕ) → v ≡ 0 → 0 < w → sign v < sign w
sign-lt v zero e l = absurd (omega arith)
sign-lt zero (suc w) e l = omega arith
sign-lt (suc v) (suc w) e l = absurd (omega arith)
