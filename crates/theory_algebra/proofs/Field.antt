-- The laws of a field.
use mathlib.Core.Path.{◌≡◌, sym, ◌∙◌, ap}
use mathlib.Core.Logic.{◌≢◌}
use Rattle.theory_algebra.specs.Field.{Field}
use Rattle.theory_algebra.proofs.Ring as Ring

module _ {F : Type 0} (K : Field F) where
  infixl 70 ◌⊛◌
  open K.ring use {mul as ◌⊛◌, 𝟘}

  -- y = (x⁻¹ x) y = x⁻¹ (x y)
  pub no-zero-divisor : (x y : F) → x ⊛ y ≡ 𝟘 → x ≢ 𝟘 → y ≡ 𝟘
  no-zero-divisor x y h ne =
      sym (Ring.one-mul K.ring y)
      ∙ ap (λ z. z ⊛ y) (sym (K.mul-inv x ne) ∙ Ring.mul_comm K.ring x (K.inv x))
      ∙ Ring.mul_assoc K.ring (K.inv x) x y
      ∙ ap (λ z. K.inv x ⊛ z) h
      ∙ Ring.mul-zero K.ring (K.inv x)
