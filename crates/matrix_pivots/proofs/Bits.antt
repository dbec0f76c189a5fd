-- The columns of rows, and their bits in a mask.
use mathlib.Core.Path.{◌≡◌}
use mathlib.Core.Logic.{◌≢◌}
use Prim.Native.Nat.{ℕ, ◌-◌, ◌<◌}
use native.Mathlib.Omega.{arith}
use Rattle.std.specs.Int.{bit_at}
use Rattle.matrix_pivots.specs.Columns.{Entered}

-- a row that is not zero has a pivot column
pub some-column : {x : ℕ} → x ≢ 0 → 0 < x
some-column ne = omega arith

-- c is column x counted from 0
pub entered : {a x b c : ℕ} → 0 < x → c ≡ x - 1 → bit_at b c ≡ 1 → ((i : ℕ) → i ≢ c → bit_at b i ≡ bit_at a i) → Entered a x b
entered some is here others = record { kept = λ y h. grind arith; new = λ h. grind arith; only = λ y h. grind arith }
