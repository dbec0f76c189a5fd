-- The last place that is not zero.
use Rattle.std.specs.Prelude.{ℕ, zero, suc}

-- x where the test number is zero, and else y
abbrev pub where_zero : ℕ → ℕ → ℕ → ℕ
where_zero zero x y = x
where_zero (suc n) x y = y

-- of the numbers f 0 to f (n - 1) the last that is not zero, as its place counted from 1; 0 if all are zero
unfoldable pub last_nonzero : ℕ → (ℕ → ℕ) → ℕ
last_nonzero zero f = 0
last_nonzero (suc n) f = where_zero (f n) (last_nonzero n f) (suc n)
