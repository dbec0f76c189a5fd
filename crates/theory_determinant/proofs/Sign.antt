-- The sign of an index depends on whether it is even.
use mathlib.Core.Path.{◌≡◌, refl, sym, ◌∙◌, ap}
use Prim.Native.Nat.{ℕ, zero, suc, ◌%◌}
use native.Mathlib.Omega.{arith}
use Rattle.theory_algebra.specs.Ring.{CommRing}
use Rattle.theory_algebra.proofs.Ring as Ring
use Rattle.theory_determinant.specs.Determinant.{sign_at}

pub sign-parity : {F : Type 0} (R : CommRing F) (j : ℕ) → sign_at R j ≡ sign_at R (j % 2)
sign-parity R zero = refl
sign-parity R (suc zero) = refl
sign-parity R (suc (suc j)) =
    let e : suc (suc j) % 2 ≡ j % 2 = omega arith in
    Ring.neg-neg R (sign_at R j) ∙ sign-parity R j ∙ ap (sign_at R) (sym e)
