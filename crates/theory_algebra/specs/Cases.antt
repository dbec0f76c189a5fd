-- Values by cases of two numbers.
use Rattle.std.specs.Prelude.{ℕ, zero, suc}

-- x where i = j, and y elsewhere
unfoldable pub if_equal : {A : Type 0} → ℕ → ℕ → A → A → A
if_equal zero zero x y = x
if_equal zero (suc j) x y = y
if_equal (suc i) zero x y = y
if_equal (suc i) (suc j) x y = if_equal i j x y
