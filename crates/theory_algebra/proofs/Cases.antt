-- Cases of two numbers: which is the greater, and whether they are equal.
use mathlib.Core.Path.{◌≡◌, refl, sym, ◌∙◌, ap}
use mathlib.Core.Logic.{◌≢◌}
use Prim.Native.Nat.{ℕ, zero, suc, ◌≤◌, ◌<◌}
use native.Mathlib.Omega.{arith}
use native.Mathlib.Decide.{dec_le, ℕ_discrete}
use Rattle.theory_algebra.specs.Cases.{if_equal}

pub case-le : {C : Type 0} (n m : ℕ) → (n ≤ m → C) → (m < n → C) → C
case-le n m f g = elim (dec_le n m) [ yes p ↦ f p | no q ↦ g (omega arith) ]

-- two numbers of which neither is less are equal
pub neither : (a b : ℕ) → ¬ (a < b) → ¬ (b < a) → a ≡ b
neither a b p q = case-le a b (λ l. case-le b a (λ r. omega arith) (λ r. absurd (p r))) (λ l. absurd (q l))

module _ {A : Type 0} where
  pub if-equal-same : (i : ℕ) (x y : A) → if_equal i i x y ≡ x
  unfolding if_equal
  if-equal-same zero x y = refl
  if-equal-same (suc i) x y = if-equal-same i x y

  pub if-equal-other : (i j : ℕ) (x y : A) → i ≢ j → if_equal i j x y ≡ y
  unfolding if_equal
  if-equal-other zero zero x y h = absurd (h refl)
  if-equal-other zero (suc j) x y h = refl
  if-equal-other (suc i) zero x y h = refl
  if-equal-other (suc i) (suc j) x y h = if-equal-other i j x y (λ e. h (ap suc e))

  -- it depends only on whether the two are equal
  pub if-equal-iff : (i j k l : ℕ) (x y : A) → (i ≡ j → k ≡ l) → (k ≡ l → i ≡ j) → if_equal i j x y ≡ if_equal k l x y
  if-equal-iff i j k l x y f g = elim (ℕ_discrete i j) [
    | yes e ↦ ap (λ z. if_equal i z x y) (sym e) ∙ if-equal-same i x y ∙ sym (ap (λ z. if_equal k z x y) (sym (f e)) ∙ if-equal-same k x y)
    | no ne ↦ if-equal-other i j x y ne ∙ sym (if-equal-other k l x y (λ e. ne (g e)))
  ]

  -- a function of a value by cases
  pub if-equal-ap : {B : Type 0} (f : A → B) (i j : ℕ) (x y : A) → f (if_equal i j x y) ≡ if_equal i j (f x) (f y)
  unfolding if_equal
  if-equal-ap f zero zero x y = refl
  if-equal-ap f zero (suc j) x y = refl
  if-equal-ap f (suc i) zero x y = refl
  if-equal-ap f (suc i) (suc j) x y = if-equal-ap f i j x y
