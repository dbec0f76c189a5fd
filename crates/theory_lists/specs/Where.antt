-- A number by a test.
use Rattle.std.specs.Prelude.{ℕ, Bool, true, false}

-- x where the test holds, and else 0
abbrev pub where_true : Bool → ℕ → ℕ
where_true true x = x
where_true false x = 0
