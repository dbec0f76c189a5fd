-- The inverse: from a multiple of a that is k modulo p to one that is p % k, and so on down to 1.
use mathlib.Core.Path.{◌≡◌, sym, ap, ◌∙◌}
use Prim.Native.Nat.{ℕ, ◌*◌, ◌-◌, ◌/◌, ◌%◌, ◌<◌}
use native.Mathlib.Nat.{mul_assoc, mul-add-mod_self_left, mod-eq_of_lt, mod-eq-sub-div-mul, mod-lt, pos_of_ne-zero}
use native.Mathlib.Omega.{arith}
use Rattle.theory_algebra.specs.Prime.{Prime}
use Rattle.theory_algebra.proofs.Residue.{complement}
use Rattle.theory_algebra.proofs.Residue.{mul_mod_left, mul_mod_right}

-- where the loop stands that has come to k: found times a is k modulo p
pub record Inverting (p a k found : ℕ) : Type 0 where
  pub some : 0 < k
  pub low : k < p
  pub below : found < p
  pub is : a * found % p ≡ k

module _ (p a k found : ℕ) (at : Inverting p a k found) where
  next : a * (found * (p - p / k) % p) % p ≡ p % k
  next =
      let small : p % k < k = mod-lt p at.some in
      mul_mod_right a (found * (p - p / k)) p
      ∙ ap (λ (n : ℕ). n % p) (sym (mul_assoc a found (p - p / k)))
      ∙ sym (mul_mod_left (a * found) (p - p / k) p)
      ∙ ap (λ (n : ℕ). (n * (p - p / k)) % p) at.is
      ∙ ap (λ (n : ℕ). n % p) (complement p k at.some)
      ∙ mul-add-mod_self_left p (k - 1) (p % k)
      ∙ mod-eq_of_lt (omega arith)

  -- the remainder is not 0, since p is prime
  pub inverting-turn : Prime p → 1 < k → Inverting p a (p - p / k * k) (found * (p - p / k) % p)
  inverting-turn prime more =
      let small : p % k < k = mod-lt p at.some in
      rw (← mod-eq-sub-div-mul p k) (record {
        some = pos_of_ne-zero (prime.only k more at.low);
        low = omega arith;
        below = mod-lt _ (omega arith);
        is = next;
      })
