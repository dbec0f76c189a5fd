-- A flag that says whether something holds.
use mathlib.Core.Path.{◌≡◌, refl, sym, ◌∙◌}
use mathlib.Core.Bool.{Bool, true, false}
use mathlib.Core.Logic.{◌↔◌}
use Prim.Native.Nat.{ℕ}
use native.Mathlib.Omega.{arith}

pub true-false : true ≡ false → ⊥
true-false e = let z : ◌≡◌ {A = ℕ} 0 1 = cc in omega arith

pub says-yes : {A : Type 0} → A → (true ≡ true) ↔ A
says-yes a = ((λ _. a), (λ _. refl))

pub says-no : {A : Type 0} → (A → ⊥) → (false ≡ true) ↔ A
says-no h = ((λ e. absurd (true-false (sym e))), (λ a. absurd (h a)))

-- where it is false, that does not hold
pub denied : {A : Type 0} {r : Bool} → (r ≡ true) ↔ A → r ≡ false → A → ⊥
denied e f a = true-false (sym (e.1 a) ∙ f)

-- two flags that say whether one thing holds are equal
pub flag-unique : {A : Type 0} (r s : Bool) → (r ≡ true) ↔ A → (s ≡ true) ↔ A → r ≡ s
flag-unique true s f g = sym (g.1 (f.0 refl))
flag-unique false true f g = f.1 (g.0 refl)
flag-unique false false f g = refl
