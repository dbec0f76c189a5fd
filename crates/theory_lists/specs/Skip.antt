-- The numbers but one.
use Rattle.std.specs.Prelude.{ℕ, zero, suc}

-- the numbers but k, in order: s is taken to s where s < k, and else to s + 1
abbrev pub skip : ℕ → ℕ → ℕ
skip zero s = suc s
skip (suc k) zero = zero
skip (suc k) (suc s) = suc (skip k s)
